-- Document 02, A1: when an elimination says 5, and what the search for a row changed.
use Rattle.std.specs.Prelude.{◌≡◌, true, ◌↔◌, ◌≢◌, List, ℕ, ◌+◌, ◌≤◌, ◌<◌, ℤ, length}
use Rattle.outcome.specs.Run.{done, Returned}
use Rattle.interval.specs.Interval.{contains_zero}
use Rattle.std.specs.Prelude.{Ok}
use Rattle.inputs.specs.Place.{at, cell}
use Rattle.inputs.specs.System.{System, tests}
use Rattle.rows.specs.Sum.{RowSum}
use Rattle.forward.specs.Pivot.{lowest_row, in_place}
use Rattle.forward.specs.Forward.{Table, table, pivots}
use Rattle.forward.specs.Formed.{formed_rows}
use Rattle.elimination.specs.Call.{copied, none_taken, ended_A, ended_B}

-- ---- 'Refusal 5 is now given exactly if no such row exists'
-- the steps before step k go to their end, and in what they leave every row from k on contains 0 in column k
pub record NoRow (n k : ℕ) (t : List ℤ) : Type 0 where
  pub below : k < n
  pub left : Table
  pub reached : pivots lowest_row n k 0 (table t none_taken) ≡ done left
  pub each : (i : ℕ) → k ≤ i → i < n → contains_zero (at left.numbers (cell n i k)) ≡ true

-- and so from I − B
pub record NoRowOfB (s : System) (k : ℕ) : Type 0 where
  pub formed : List ℤ
  pub forms : formed_rows s.size s.size 0 (copied s) ≡ done formed
  pub no_row : NoRow s.size k formed

-- 5, with the pivot's number from 1
abbrev pub Five : Returned (List ℤ) → (k : ℕ) → Type 0
Five r k = (r.number ≡ 5) × (r.place ≡ k + 1)

-- whatever the row sum is
pub record FiveExactly : Type 0 where
  pub from_A :
      (sum : RowSum) (s : System) (box : List ℤ) (k : ℕ)
      → Five (ended_A lowest_row sum s box) k ↔ ((tests s (length box) ≡ Ok tt) × NoRow s.size k (copied s))
  pub from_B :
      (sum : RowSum) (s : System) (box : List ℤ) (k : ℕ)
      → Five (ended_B lowest_row sum s box) k ↔ ((tests s (length box) ≡ Ok tt) × NoRowOfB s k)

-- ---- 'A balance accepted before gets the same box': all is as before, unless 5 was said before
pub record SameUnlessFive : Type 0 where
  pub from_A :
      (sum : RowSum) (s : System) (box : List ℤ)
      → (ended_A in_place sum s box).number ≢ 5 → ended_A lowest_row sum s box ≡ ended_A in_place sum s box
  pub from_B :
      (sum : RowSum) (s : System) (box : List ℤ)
      → (ended_B in_place sum s box).number ≢ 5 → ended_B lowest_row sum s box ≡ ended_B in_place sum s box
