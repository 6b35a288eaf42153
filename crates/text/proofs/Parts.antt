-- What a search finds says of the parts between the bytes sought.
use mathlib.Core.Path.{◌≡◌, refl, ◌∙◌}
use mathlib.Core.Bool.{Bool, true, false}
use mathlib.Core.List.{List, [], ◌∷◌}
use Prim.Native.Nat.{ℕ, suc, ◌+◌, ◌-◌, ◌≤◌}
use native.Mathlib.Omega.{arith}
use lib.Dec.{eqb}
use lib.ListN.{length, take, drop, length-drop}
use lib.Seq.{drop-drop, take_all}
use Rattle.std.specs.Prelude.{Some, None}
use Rattle.search.specs.First.{first_in, first_from}
use Rattle.text.specs.Parts.{longer, parts}

-- the parts of a list, by where the first b stands in it
parts_none_in : (xs : List ℕ) (b i : ℕ) → first_in xs b i ≡ None → parts b xs ≡ xs ∷ []
unfolding first_in parts longer
parts_none_in [] b i e = refl
parts_none_in (x ∷ xs) b i e = go (eqb x b) refl (parts_none_in xs b (i + 1))
  where
    go : (t : Bool) → eqb x b ≡ t → (first_in xs b (i + 1) ≡ None → parts b xs ≡ xs ∷ []) → parts b (x ∷ xs) ≡ (x ∷ xs) ∷ []
    go true f r = let z = rw f at e in cc z
    go false f r = let q : parts b xs ≡ xs ∷ [] = r (rw f at e) in rw (f, q)

pub record Cut (xs : List ℕ) (b i e : ℕ) : Type 0 where
  pub from : i ≤ e
  pub cut : parts b xs ≡ take (e - i) xs ∷ parts b (drop (e - i + 1) xs)

parts_at_in : (xs : List ℕ) (b i e : ℕ) → first_in xs b i ≡ Some e → Cut xs b i e
unfolding first_in parts longer
parts_at_in [] b i e h = cc h
parts_at_in (x ∷ xs) b i e h = go (eqb x b) refl (parts_at_in xs b (i + 1) e)
  where
    go : (t : Bool) → eqb x b ≡ t → (first_in xs b (i + 1) ≡ Some e → Cut xs b (i + 1) e) → Cut (x ∷ xs) b i e
    go true f r =
        let z : Some i ≡ Some e = rw f at h in
        let y : i ≡ e = cc z in
        let d : e - i ≡ 0 = omega arith in
        record { from = omega arith; cut = rw (d, f) }
    go false f r =
        let q : Cut xs b (i + 1) e = r (rw f at h) in
        let d : e - i ≡ suc (e - (i + 1)) = omega (arith, q.from) in
        let m : e - i + 1 ≡ suc (e - (i + 1) + 1) = omega (arith, q.from) in
        record { from = omega (arith, q.from); cut = rw (m, d, f, q.cut) }

module _ (s : List ℕ) (from b : ℕ) where
  pub parts_none : first_from s from b ≡ None → parts b (drop from s) ≡ drop from s ∷ []
  unfolding first_from
  parts_none e = parts_none_in (drop from s) b from e

  pub parts_at : (e : ℕ) → first_from s from b ≡ Some e → parts b (drop from s) ≡ take (e - from) (drop from s) ∷ parts b (drop (e + 1) s)
  unfolding first_from
  parts_at e h =
      let r = parts_at_in (drop from s) b from e h in
      let d : from + (e - from + 1) ≡ e + 1 = omega (arith, r.from) in
      r.cut ∙ rw (drop-drop, d)

-- there is always a part left
pub parts_some : (b : ℕ) (s : List ℕ) → 1 ≤ length (parts b s)
unfolding parts longer
parts_some b [] = omega arith
parts_some b (x ∷ s) = go (eqb x b) refl
  where
    go : (t : Bool) → eqb x b ≡ t → 1 ≤ length (parts b (x ∷ s))
    go true e = rw e (omega arith)
    go false e = rw e (more (parts b s))
      where
        more : (ps : List (List ℕ)) → 1 ≤ length (longer x ps)
        more [] = omega arith
        more (p ∷ ps) = omega arith

-- a slice to its end
pub to_end : (s : List ℕ) (at : ℕ) → take (length s - at) (drop at s) ≡ drop at s
to_end s at = take_all (length s - at) (drop at s) (rw length-drop (omega arith))
