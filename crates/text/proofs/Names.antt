-- The bytes of a name, one turn of the loop over them, and names that differ.
use mathlib.Core.Path.{◌≡◌, refl, sym, ◌∙◌}
use mathlib.Core.Bool.{Bool, true, false, not, ◌&&◌, ◌||◌}
use mathlib.Core.List.{List, [], ◌∷◌, ◌++◌}
use Prim.Native.Nat.{ℕ, ◌≤◌, ◌<◌}
use native.Mathlib.Omega.{arith}
use borrow.Author.Tests.{le-leb, lt-leb, leb-true, leb-false, not-true, eq-eqb, ne_eqb, eqb-true}
use lib.Dec.{eqb, leb}
use lib.ListN.{length}
use Rattle.std.specs.Char.{is_ascii_alphanumeric}
use Rattle.std.specs.Int.{is_in_range}
use Rattle.std.specs.List.{list_all}
use Rattle.std.proofs.Math.Bool.{or_assoc, or-true, and-false}
use Rattle.interval.proofs.Range.{and_both, or_neither}
use Rattle.text.specs.Number.{is_digit}
use Rattle.text.specs.Names.{name_byte, all_bytes, is_name, same, among, each_name}

pub false_not : {A : Type 0} → false ≡ true → A
false_not e = cc

-- ---- the bytes of a name
outside : (lo hi b : ℕ) → (lo ≤ b → hi < b) → (leb lo b && leb b hi) ≡ false
outside lo hi b h = go (leb lo b) refl
  where
    go : (t : Bool) → leb lo b ≡ t → (leb lo b && leb b hi) ≡ false
    go true e = rw (e, lt-leb b hi (h (leb-true lo b e)))
    go false e = rw e

either_way : (d u l m : Bool) → (((d || u) || l) || m) ≡ (u || (l || (d || m)))
either_way true true l m = refl
either_way true false true m = refl
either_way true false false m = refl
either_way false true l m = refl
either_way false false l m = refl

module _ (b : ℕ) where
  -- as the library tests it
  pub byte_is : (is_ascii_alphanumeric b || eqb b 45) ≡ name_byte b
  unfolding name_byte is_digit
  byte_is = either_way (is_in_range 48 57 b) (is_in_range 65 90 b) (is_in_range 97 122 b) (eqb b 45)

  pub byte_none : (65 ≤ b → 90 < b) → (97 ≤ b → 122 < b) → (48 ≤ b → 57 < b) → (b ≡ 45 → ⊥) → false ≡ name_byte b
  unfolding name_byte is_digit
  byte_none f g h i = rw (outside 65 90 b f, outside 97 122 b g, outside 48 57 b h, ne_eqb b 45 i)

-- a byte, and not 0
pub byte_within : (b : ℕ) → name_byte b ≡ true → (1 ≤ b) × (b ≤ 255)
byte_within b e = go (leb 1 b) refl (leb b 255) refl
  where
    go : (t : Bool) → leb 1 b ≡ t → (u : Bool) → leb b 255 ≡ u → (1 ≤ b) × (b ≤ 255)
    go true f true g = (leb-true 1 b f, leb-true b 255 g)
    go false f u g = let h = leb-false 1 b f in false_not (byte_none b (λ i. omega arith) (λ i. omega arith) (λ i. omega arith) (λ i. omega arith) ∙ e)
    go true f false g = let h = leb-false b 255 g in false_not (byte_none b (λ i. omega arith) (λ i. omega arith) (λ i. omega arith) (λ i. omega arith) ∙ e)

module _ (s : List ℕ) where
  pub name_empty : length s < 1 → false ≡ is_name s
  unfolding is_name
  name_empty h = rw (lt-leb 1 (length s) h)

  pub name_long : 1 ≤ length s → 16 < length s → false ≡ is_name s
  unfolding is_name
  name_long h k = rw (le-leb 1 (length s) h, lt-leb (length s) 16 k)

  pub name_fits : 1 ≤ length s → length s ≤ 16 → all_bytes s ≡ is_name s
  unfolding is_name
  name_fits h k = rw (le-leb 1 (length s) h, le-leb (length s) 16 k)

  pub name_bytes : is_name s ≡ true → (length s ≤ 16) × (all_bytes s ≡ true)
  unfolding is_name
  name_bytes e =
      let h = and_both (leb (length s) 16) (all_bytes s) (and_both (leb 1 (length s)) (leb (length s) 16 && all_bytes s) e).1 in
      (leb-true (length s) 16 h.0, h.1)

pub bytes_all : (s : List ℕ) → list_all name_byte s ≡ all_bytes s
unfolding all_bytes
bytes_all [] = refl
bytes_all (b ∷ s) = rw (bytes_all s)

-- ---- names that differ
same_self : (s : List ℕ) → same s s ≡ true
unfolding same
same_self [] = refl
same_self (a ∷ s) = rw (eq-eqb a a refl) (same_self s)

same_equal : (s t : List ℕ) → same s t ≡ true → s ≡ t
unfolding same
same_equal [] [] e = refl
same_equal [] (b ∷ t) e = false_not e
same_equal (a ∷ s) [] e = false_not e
same_equal (a ∷ s) (b ∷ t) e =
    let h = and_both (eqb a b) (same s t) e in
    let p : a ≡ b = eqb-true a b h.0 in
    let q : s ≡ t = same_equal s t h.1 in
    cc

-- an answer that is true exactly for equal lists is `same`
pub same_is : (r : Bool) (s t : List ℕ) → (r ≡ true → s ≡ t) × (s ≡ t → r ≡ true) → r ≡ same s t
same_is true s t h = rw (h.0 refl) (sym (same_self t))
same_is false s t h = go (same s t) refl
  where
    go : (u : Bool) → same s t ≡ u → false ≡ same s t
    go true e = h.1 (same_equal s t e) ∙ sym e
    go false e = sym e

-- it does not matter which of two names comes first
pub same_flip : (s t : List ℕ) → same s t ≡ same t s
same_flip s t = same_is (same s t) t s (λ e. sym (same_equal s t e), λ e. rw e (same_self s))

among_append : (s : List ℕ) (ps qs : List (List ℕ)) → among s (ps ++ qs) ≡ (among s ps || among s qs)
unfolding among
among_append s [] qs = refl
among_append s (p ∷ ps) qs = rw (among_append s ps qs, or_assoc)

module _ (p : List ℕ) where
  -- a name more, which is none of those before it
  pub each_new : (seen : List (List ℕ)) → each_name seen ≡ true → is_name p ≡ true → among p seen ≡ false → each_name (seen ++ p ∷ []) ≡ true
  unfolding each_name among
  each_new [] e h k = rw h
  each_new (q ∷ seen) e h k =
      let f = and_both (is_name q) (not (among q seen) && each_name seen) e in
      let g = and_both (not (among q seen)) (each_name seen) f.1 in
      let l = or_neither (same q p) (among p seen) k in
      rw (f.0, among_append q seen (p ∷ []), not-true (among q seen) g.0, same_flip p q, l.0, each_new seen g.1 h l.1)

  -- no name, or one of those before it
  pub each_old : (seen ps : List (List ℕ)) → (is_name p && not (among p seen)) ≡ false → each_name (seen ++ p ∷ ps) ≡ false
  unfolding each_name among
  each_old [] ps k = go (is_name p) k
    where
      go : (t : Bool) → (t && true) ≡ false → (t && (not (among p ps) && each_name ps)) ≡ false
      go true e = false_not (sym e)
      go false e = refl
  each_old (q ∷ seen) ps k = go (same q p) refl (each_old seen ps)
    where
      go : (t : Bool) → same q p ≡ t → ((is_name p && not (among p seen)) ≡ false → each_name (seen ++ p ∷ ps) ≡ false) → each_name (q ∷ (seen ++ p ∷ ps)) ≡ false
      go true e r = rw (among_append q seen (p ∷ ps), same_flip p q, e, or-true, and-false)
      go false e r = let f = r (rw e at k) in rw (f, and-false, and-false)
