-- What each way through the code says of a value and of a line of values.
use mathlib.Core.Path.{◌≡◌, refl, sym, ap, ◌∙◌}
use mathlib.Core.Bool.{Bool, true, false, cond, ◌&&◌}
use mathlib.Core.List.{List, [], ◌∷◌, ◌++◌, append-nil, append_assoc}
use Prim.Native.Nat.{ℕ, suc, ◌+◌, ◌-◌, ◌*◌, ◌≤◌, ◌<◌}
use native.Mathlib.Omega.{arith}
use native.Mathlib.Nat.{sub-zero}
use borrow.Author.Tests.{eqb-true}
use lib.Dec.{eqb, leb}
use lib.IntN.{ℤ}
use lib.ListN.{length, take, drop}
use mir.Syntax.{w64}
use mir.Val.{SFits, to_z, of_z}
use mir.ValLaws.{to_z-of_z}
use Rattle.std.specs.Prelude.{Option, Some, None, is_some, option_and_then}
use Rattle.interval.specs.declared.Interval.{Interval}
use Rattle.inputs.specs.Place.{put}
use Rattle.text.specs.Parts.{parts, fields}
use Rattle.text.specs.Number.{is_digit, digits, plain, magnitude, below, number, both_ends, value, then, values}
use Rattle.search.specs.First.{first_in, first_from}
use Rattle.text.specs.Code.{both}
use Rattle.text.proofs.Pairs.{pair_set}
use Rattle.text.proofs.Parts.{parts_at, parts_none, parts_some, to_end}

-- ---- a ':' is in no number, so a second one makes a field no value
cond_none : {A : Type 0} (t : Bool) → ◌≡◌ {A = Option A} (cond t None None) None
cond_none true = refl
cond_none false = refl

and_then_none : {A B : Type 0} (a : Option A) → ◌≡◌ {A = Option B} (option_and_then (λ x. None) a) None
and_then_none None = refl
and_then_none (Some x) = refl

digits_colon : (s : List ℕ) (v i k : ℕ) → first_in s 58 i ≡ Some k → digits s v ≡ None
unfolding digits first_in is_digit
digits_colon [] v i k e = cc e
digits_colon (b ∷ s) v i k e = go (eqb b 58) refl (digits_colon s (v * 10 + (b - 48)) (i + 1) k)
  where
    go : (t : Bool) → eqb b 58 ≡ t → (first_in s 58 (i + 1) ≡ Some k → digits s (v * 10 + (b - 48)) ≡ None) → digits (b ∷ s) v ≡ None
    go true f r = rw (eqb-true b 58 f)
    go false f r = let q = r (rw f at e) in rw q (cond_none (is_digit b))

magnitude_colon : (s : List ℕ) (i k : ℕ) → first_in s 58 i ≡ Some k → magnitude s ≡ None
unfolding magnitude
magnitude_colon s i k e = rw (digits_colon s 0 i k e) (cond_none (leb 1 (length s) && (leb (length s) 10 && plain s)))

number_colon : (s : List ℕ) (i k : ℕ) → first_in s 58 i ≡ Some k → number s ≡ None
unfolding number first_in
number_colon [] i k e = refl
number_colon (b ∷ s) i k e = rw (magnitude_colon (b ∷ s) i k e) (go (eqb b 45) refl)
  where
    go : (t : Bool) → eqb b 45 ≡ t → cond t (option_and_then below (magnitude s)) None ≡ None
    go true f =
        let p : b ≡ 45 = eqb-true b 45 f in
        let q : first_in s 58 (i + 1) ≡ Some k = rw p at e in
        rw (magnitude_colon s (i + 1) k q)
    go false f = refl

-- both ends, if both are numbers
abbrev pub pair : Option ℤ → Option ℤ → Option (List ℤ)
pair a b = option_and_then (λ lo. option_and_then (λ hi. Some (lo ∷ hi ∷ [])) b) a

two : (l u : List ℕ) → pair (number l) (number u) ≡ both_ends (l ∷ parts 58 u)
unfolding both_ends first_from
two l u = go (first_from u 0 58) refl
  where
    more : (p : List ℕ) (ps : List (List ℕ)) → 1 ≤ length ps → None ≡ both_ends (l ∷ (p ∷ ps))
    more p [] h = absurd (omega arith)
    more p (q ∷ ps) h = refl

    go : (r : Option ℕ) → first_from u 0 58 ≡ r → pair (number l) (number u) ≡ both_ends (l ∷ parts 58 u)
    go None e = rw (parts_none u 0 58 e)
    go (Some k) e = rw (number_colon u 0 k e, parts_at u 0 58 k e) (and_then_none (number l) ∙ more (take (k - 0) u) (parts 58 (drop (k + 1) u)) (parts_some 58 (drop (k + 1) u)))

-- ---- a value; the bytes after the ':' are a part of the field up to its end
module _ (f : List ℕ) where
  pub value_none : first_from f 0 58 ≡ None → None ≡ value f
  unfolding value both_ends
  value_none e = rw (parts_none f 0 58 e)

  pub value_ends : {c : ℕ} (g h : Option ℤ)
      → first_from f 0 58 ≡ Some c → g ≡ number (take c f) → h ≡ number (take (length f - (c + 1)) (drop (c + 1) f)) → pair g h ≡ value f
  unfolding value
  value_ends {c} g h e l u = rw (l, u, to_end f (c + 1), parts_at f 0 58 c e, sub-zero c) (two (take c f) (drop (c + 1) f))

-- the ends as the code holds them
pub ends_kept : {lo hi : ℤ} → SFits w64 lo → SFits w64 hi → Some (both (record { lo = to_z w64 (of_z w64 lo); hi = to_z w64 (of_z w64 hi) })) ≡ Some (lo ∷ hi ∷ [])
ends_kept {lo} {hi} l u = rw (to_z-of_z w64 lo l, to_z-of_z w64 hi u)

-- ---- a value put in its place
module _ (t : List ℤ) (p : ℕ) (f : List ℕ) where
  take_put : (v : Interval) → 2 * (p + 1) ≤ length t → take (2 * (p + 1)) (put t p v) ≡ take (2 * p) t ++ v.lo ∷ v.hi ∷ []
  unfolding put
  take_put v h = pair_set t p v.lo v.hi h

  pub placed : (v : Interval) → 2 * (p + 1) ≤ length t → Some (v.lo ∷ v.hi ∷ []) ≡ value f
      → Some (take (2 * (p + 1)) (put t p v)) ≡ then (Some (take (2 * p) t)) (value f)
  unfolding then
  placed v h e = rw (← e, take_put v h)

  pub not_placed : None ≡ value f → None ≡ then (Some (take (2 * p) t)) (value f)
  unfolding then
  not_placed e = rw (← e)

-- ---- numbers read one after the other
then_assoc : (a b c : Option (List ℤ)) → then a (then b c) ≡ then (then a b) c
unfolding then
then_assoc None b c = refl
then_assoc (Some xs) None c = refl
then_assoc (Some xs) (Some ys) None = refl
then_assoc (Some xs) (Some ys) (Some zs) = ap {B = Option (List ℤ)} Some (sym (append_assoc xs ys zs))

then_none : (a : Option (List ℤ)) → then a None ≡ None
unfolding then
then_none None = refl
then_none (Some xs) = refl

then_nothing : (a : Option (List ℤ)) → then a (Some []) ≡ a
unfolding then
then_nothing None = refl
then_nothing (Some xs) = ap {B = Option (List ℤ)} Some (append-nil xs)

-- ---- a line; i of its n values are read, and acc with them
module _ (line : List ℕ) (at n i : ℕ) (acc : Option (List ℤ)) where
  module _ {e : ℕ} (f : first_from line at 59 ≡ Some e) where
    -- a value and then a ';'
    pub line_go : {r : Option (List ℤ)} → i < n → r ≡ then acc (value (take (e - at) (drop at line)))
        → then acc (values (n - i) (fields (drop at line))) ≡ then r (values (n - (i + 1)) (fields (drop (e + 1) line)))
    unfolding values
    line_go {r} h q =
        let d : n - i ≡ suc (n - (i + 1)) = omega arith in
        rw (d, parts_at line at 59 e f, then_assoc, ← q)

  -- a ';' after the last value
  pub line_long : is_some (first_from line at 59) ≡ true → n - i ≡ 1 → None ≡ then acc (values (n - i) (fields (drop at line)))
  unfolding values
  line_long f d = go (first_from line at 59) refl
    where
      more : (v : Option (List ℤ)) (ps : List (List ℕ)) → 1 ≤ length ps → None ≡ then acc (then v (values 0 ps))
      more v [] k = absurd (omega arith)
      more v (p ∷ ps) k = sym (ap (then acc) (then_none v) ∙ then_none acc)

      go : (r : Option ℕ) → first_from line at 59 ≡ r → None ≡ then acc (values (n - i) (fields (drop at line)))
      go (Some e) g = rw (d, parts_at line at 59 e g) (more (value (take (e - at) (drop at line))) (fields (drop (e + 1) line)) (parts_some 59 (drop (e + 1) line)))
      go None g = let b = rw g at f in cc b

  module _ (f : first_from line at 59 ≡ None) where
    -- the line ends before the last value
    pub line_short : i + 1 < n → None ≡ then acc (values (n - i) (fields (drop at line)))
    unfolding values
    line_short h =
        let d : n - i ≡ suc (suc (n - (i + 2))) = omega arith in
        rw (d, parts_none line at 59 f, then_none, then_none)

    last_of : {r : Option (List ℤ)} → n - i ≡ 1 → r ≡ then acc (value (take (length line - at) (drop at line))) → r ≡ then acc (values (n - i) (fields (drop at line)))
    unfolding values
    last_of d q = q ∙ rw (d, parts_none line at 59 f, then_nothing, to_end line at)

  -- a value that is none
  pub line_out : {e : ℕ} → first_from line at 59 ≡ Some e → i < n → None ≡ then acc (value (take (e - at) (drop at line)))
      → None ≡ then acc (values (n - i) (fields (drop at line)))
  unfolding then
  line_out f h q = sym (line_go f h q)

  pub line_last : is_some (first_from line at 59) ≡ false → n - i ≡ 1 → {r : Option (List ℤ)} → r ≡ then acc (value (take (length line - at) (drop at line))) → r ≡ then acc (values (n - i) (fields (drop at line)))
  line_last f d {r} q = go (first_from line at 59) refl
    where
      go : (m : Option ℕ) → first_from line at 59 ≡ m → r ≡ then acc (values (n - i) (fields (drop at line)))
      go (Some e) g = let b = rw g at f in cc b
      go None g = last_of g d q
