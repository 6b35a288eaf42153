-- The positions of records in the square rise exactly as the records follow each other.
use mathlib.Core.Path.{◌≡◌, refl, sym, ap, ◌∙◌}
use mathlib.Core.Bool.{Bool, true, false, ◌&&◌, ◌||◌}
use mathlib.Core.Logic.{◌⊎◌, inl, inr}
use Prim.Native.Nat.{ℕ, ◌+◌, ◌*◌, ◌≤◌, ◌<◌}
use native.Mathlib.Omega.{arith}
use native.Mathlib.Nat.{mul-le-mul}
use native.Mathlib.Decide.{dec_lt}
use borrow.Author.Tests.{leb-true, ltb-true, le-leb, lt-ltb}
use lib.Dec.{leb, ltb}
use lib.Signed.{le_z, lt_z}
use Rattle.interval.proofs.Range.{and_both}
use Rattle.inputs.specs.Place.{cell}
use Rattle.inputs.proofs.Tests.{rows_apart}
use Rattle.transfers.specs.declared.Transfer.{Transfer}
use Rattle.transfers.specs.Listing.{both_components, follows, place_of}
use Rattle.transfers.proofs.Component.{Component, component, component_row, receiver, giver}

either : (a b : Bool) → (a || b) ≡ true → (a ≡ true) ⊎ (b ≡ true)
either true b e = inl refl
either false b e = inr e

-- a later row, or the same row and a later column
abbrev After : (i j k l : ℕ) → Type 0
After i j k l = (i < k) ⊎ ((i ≤ k) × (j < l))

rising : (n i j k l : ℕ) → j < n → After i j k l → cell n i j < cell n k l
rising n i j k l h (inl a) = let r = rows_apart n i k a in omega (arith, r, h)
rising n i j k l h (inr a) = let r = mul-le-mul {n₁ = i} {m₁ = n} {n₂ = k} {m₂ = n} a.0 (omega arith) in omega (arith, r, a.1)

falling : (n i j k l : ℕ) → l < n → cell n i j < cell n k l → After i j k l
falling n i j k l h a = go (dec_lt i k) (dec_lt k i)
  where
    go : Dec (i < k) → Dec (k < i) → After i j k l
    go (yes b) _ = inl b
    go (no b) (yes c) = let r = rows_apart n k i c in absurd (omega (arith, r, h, a))
    go (no b) (no c) =
        let q : i ≡ k = omega (arith, b, c) in
        let f : i * n ≡ k * n = ap (λ x. x * n) q in
        inr (omega (arith, q), omega (arith, a, f))

module _ (n : ℕ) (s t : Transfer) (e : both_components n s ≡ true) (f : both_components n t ≡ true) where
  a : Component n s.receiver
  a = component n s.receiver (receiver n s e)

  b : Component n s.giver
  b = component n s.giver (giver n s e)

  c : Component n t.receiver
  c = component n t.receiver (receiver n t f)

  d : Component n t.giver
  d = component n t.giver (giver n t f)

  -- in rows and columns from 0
  told : follows s t ≡ (ltb (a.row + 1) (c.row + 1) || (leb (a.row + 1) (c.row + 1) && ltb (b.row + 1) (d.row + 1)))
  unfolding follows
  told i = lt_z (a.is i) (c.is i) || (le_z (a.is i) (c.is i) && lt_z (b.is i) (d.is i))

  pub place_rises : follows s t ≡ true → place_of n s < place_of n t
  unfolding place_of
  place_rises g = rw (component_row a, component_row b, component_row c, component_row d) (rising n a.row b.row c.row d.row b.below (go a.row b.row c.row d.row (either _ _ (sym told ∙ g))))
    where
      go : (p q r s : ℕ) → (ltb (p + 1) (r + 1) ≡ true) ⊎ ((leb (p + 1) (r + 1) && ltb (q + 1) (s + 1)) ≡ true) → After p q r s
      go p q r s (inl l) = let l₁ = ltb-true (p + 1) (r + 1) l in inl (omega (arith, l₁))
      go p q r s (inr l) =
          let m = and_both _ _ l in
          let l₁ = leb-true (p + 1) (r + 1) m.0 in
          let l₂ = ltb-true (q + 1) (s + 1) m.1 in
          inr (omega (arith, l₁), omega (arith, l₂))

  pub rises_follows : place_of n s < place_of n t → follows s t ≡ true
  unfolding place_of
  rises_follows h = told ∙ go a.row b.row c.row d.row (falling n a.row b.row c.row d.row d.below (rw (component_row a, component_row b, component_row c, component_row d) at h))
    where
      or_true : (x : Bool) → (x || true) ≡ true
      or_true true = refl
      or_true false = refl

      go : (p q r s : ℕ) → After p q r s → (ltb (p + 1) (r + 1) || (leb (p + 1) (r + 1) && ltb (q + 1) (s + 1))) ≡ true
      go p q r s (inl l) = rw (lt-ltb (p + 1) (r + 1) (omega arith))
      go p q r s (inr l) = rw (le-leb (p + 1) (r + 1) (omega (arith, l.0)), lt-ltb (q + 1) (s + 1) (omega (arith, l.1))) (or_true (ltb (p + 1) (r + 1)))
