-- The square that a list stands for: each listed pair has its own interval, every other is nought.
use mathlib.Core.Path.{◌≡◌, sym, ap, ap₂, ◌∙◌}
use mathlib.Core.List.{List}
use Prim.Native.Nat.{ℕ, ◌+◌, ◌-◌, ◌*◌, ◌<◌}
use native.Mathlib.Omega.{arith}
use native.Mathlib.Decide.{dec_lt}
use lib.IntN.{pos, nat_abs}
use lib.ListN.{length}
use Rattle.std.specs.Prelude.{Ok}
use Rattle.inputs.specs.Place.{cell}
use Rattle.inputs.proofs.Tests.{rows_apart}
use Rattle.transfers.specs.declared.Transfer.{Transfer}
use Rattle.transfers.specs.Listing.{nth, entries, place_of}
use Rattle.transfers.proofs.Component.{component, component_row, receiver, giver}
use Rattle.transfers.proofs.Places.{components, own_place, no_place}
use Rattle.transfers_as_square.specs.Claim.{Of, Stands, SquareStands}

cell_same : (n i j k l : ℕ) → j < n → l < n → cell n i j ≡ cell n k l → (i ≡ k) × (j ≡ l)
cell_same n i j k l h g e = go (dec_lt i k) (dec_lt k i)
  where
    go : Dec (i < k) → Dec (k < i) → (i ≡ k) × (j ≡ l)
    go (yes a) _ = let r = rows_apart n i k a in absurd (omega (arith, r, h, g, e))
    go (no a) (yes b) = let r = rows_apart n k i b in absurd (omega (arith, r, h, g, e))
    go (no a) (no b) =
        let q : i ≡ k = omega (arith, a, b) in
        let f : i * n ≡ k * n = ap (λ x. x * n) q in
        (q, omega (arith, e, f))

-- a list that passes 11 and 12
module _ (n : ℕ) (ts : List Transfer) (passes : entries n ts ≡ Ok tt) where
  -- the place of a pair
  at_cell : (t : Transfer) (i j : ℕ) → Of t i j → place_of n t ≡ cell n i j
  unfolding place_of
  at_cell t i j w =
      let e : i + 1 - 1 ≡ i = omega arith in
      let f : j + 1 - 1 ≡ j = omega arith in
      ap₂ (cell n) (ap (λ z. nat_abs z - 1) w.0 ∙ e) (ap (λ z. nat_abs z - 1) w.1 ∙ f)

  of_cell : (k i j : ℕ) → k < length ts → j < n → cell n i j ≡ place_of n (nth ts k) → Of (nth ts k) i j
  unfolding place_of
  of_cell k i j h b e =
      let t = nth ts k in
      let r = component n t.receiver (receiver n t (components n ts passes k h)) in
      let g = component n t.giver (giver n t (components n ts passes k h)) in
      let q = cell_same n i j r.row g.row b g.below (e ∙ ap₂ (cell n) (component_row r) (component_row g)) in
      (r.is ∙ ap (λ m. pos (m + 1)) (sym q.0), g.is ∙ ap (λ m. pos (m + 1)) (sym q.1))

  stands : Stands n ts
  stands =
      record {
        listed = λ i j k h w. rw (at_cell (nth ts k) i j w) at (own_place n ts passes k h);
        unlisted = λ i j a b none. no_place n ts (cell n i j) (λ k h e. none k h (of_cell k i j h b e));
      }

pub square_stands : SquareStands
square_stands = stands
