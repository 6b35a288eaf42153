-- With which refusals the parts of a calculation are refused, for any P that holds of them: 6 with a row, and where a pivot is looked for
-- 5 with a pivot.
use mathlib.Core.List.{List}
use Prim.Native.Nat.{ℕ, zero, suc}
use lib.IntN.{ℤ}
use Rattle.outcome.specs.declared.Refusal.{Refusal}
use Rattle.outcome.specs.declared.Refusal.TheVariants as refusal
use Rattle.outcome.specs.Run.{Run}
use Rattle.outcome.proofs.Run.{Refuses, refuses_done, refuses_with, refuses_cond, refuses_then}
use Rattle.interval.specs.declared.Interval.{Interval}
use Rattle.rows.specs.Sum.{RowSum}
use Rattle.forward.specs.Run.{in_range_then}
use Rattle.forward.specs.Pivot.{lowest_from, lowest_row}
use Rattle.forward.specs.Forward.{Table, taking, columns, right_side, rows, pivots, forward}
use Rattle.forward.specs.Formed.{formed_row, formed_rows}
use Rattle.elimination.specs.Back.{back}
use Rattle.elimination.specs.Call.{solved}

ruleset parts = (refuses_done, refuses_with, refuses_cond, refuses_then)

module _ (P : Refusal → Type 0) (six : (row : ℕ) → P (refusal.OutOfRange row)) where
  abbrev Stops : {A : Type 0} → Run A → Type 0
  Stops r = Refuses P r

  refuses_range : (row : ℕ) (v : Interval) (f : Interval → Run (List ℤ)) → ((w : Interval) → Stops (f w)) → Stops (in_range_then row v f)
  unfolding in_range_then
  refuses_range row v f h = search (parts, six, h)

  refuses_columns : (n k i : ℕ) (m : Interval) (d j : ℕ) (t : List ℤ) → Stops (columns n k i m d j t)
  unfolding columns
  refuses_columns n k i m zero j t = search parts
  refuses_columns n k i m (suc d) j t = search (parts, refuses_range, refuses_columns n k i m d)

  refuses_right_side : (n k i : ℕ) (m : Interval) (t : List ℤ) → Stops (right_side n k i m t)
  unfolding right_side
  refuses_right_side n k i m t = search (parts, refuses_range)

  pub refuses_rows : (n k : ℕ) (pivot : Interval) (d i : ℕ) (t : List ℤ) → Stops (rows n k pivot d i t)
  unfolding rows
  refuses_rows n k pivot zero i t = search parts
  refuses_rows n k pivot (suc d) i t = search (parts, refuses_range, refuses_columns, refuses_right_side, refuses_rows n k pivot d)

  pub refuses_back : (sum : RowSum) (n i : ℕ) (t : List ℤ) → Stops (back sum n i t)
  unfolding back
  refuses_back sum n zero t = search parts
  refuses_back sum n (suc i) t = search (parts, refuses_range, refuses_back sum n i)

  refuses_formed_row : (n i d j : ℕ) (t : List ℤ) → Stops (formed_row n i d j t)
  unfolding formed_row
  refuses_formed_row n i zero j t = search parts
  refuses_formed_row n i (suc d) j t = search (parts, refuses_range, refuses_formed_row n i d)

  pub refuses_formed_rows : (n d i : ℕ) (t : List ℤ) → Stops (formed_rows n d i t)
  unfolding formed_rows
  refuses_formed_rows n zero i t = search parts
  refuses_formed_rows n (suc d) i t = search (parts, refuses_formed_row, refuses_formed_rows n d)

  module _ (five : (pivot : ℕ) → P (refusal.ContainsZero pivot)) where
    refuses_lowest_from : (n k d i : ℕ) (t : List ℤ) → Stops (lowest_from n k d i t)
    unfolding lowest_from
    refuses_lowest_from n k zero i t = search (parts, five)
    refuses_lowest_from n k (suc d) i t = search (parts, refuses_lowest_from n k d)

    refuses_taking : (n k : ℕ) (s : Table) → Stops (taking lowest_row n k s)
    unfolding taking lowest_row
    refuses_taking n k s = search (parts, refuses_lowest_from)

    refuses_pivots : (n d k : ℕ) (s : Table) → Stops (pivots lowest_row n d k s)
    unfolding pivots
    refuses_pivots n zero k s = search parts
    refuses_pivots n (suc d) k s = search (parts, refuses_taking, refuses_rows, refuses_pivots n d)

    pub refuses_solved : (sum : RowSum) (n : ℕ) (t : List ℤ) → Stops (solved lowest_row sum n t)
    unfolding solved forward
    refuses_solved sum n t = search (parts, refuses_pivots, refuses_back)
