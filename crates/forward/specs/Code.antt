-- What the functions of the forward part ask of the working copy and promise each other.
use Rattle.std.specs.Prelude.{◌≡◌, Result, Ok, Err, false, cond, List, ℕ, ◌+◌, ◌*◌, ◌≤◌, ◌<◌, ℤ, length}
use Rattle.interval.specs.declared.Interval.{Interval}
use Rattle.interval.specs.Interval.{contains_zero, in_range}
use Rattle.inputs.specs.Place.{at, put, cell}
use Rattle.inputs.specs.Code.{Sound}
use Rattle.outcome.specs.declared.Refusal.{Refusal}
use Rattle.outcome.specs.declared.Refusal.TheVariants as refusal
use Rattle.outcome.specs.Run.{Run, refused, done, run_of}
use Rattle.forward.specs.Pivot.{lowest_row}
use Rattle.forward.specs.Forward.{Table, taking}

-- a working copy with room for n rows, all of it intervals
pub record Working (n : ℕ) (t : List ℤ) : Type 0 where
  pub few : n ≤ 32
  pub room : 2 * (n * n + n) ≤ length t
  pub sound : Sound t

-- no pivot contains 0
pub record Pivots (n : ℕ) (t : List ℤ) : Type 0 where
  pub each : (k : ℕ) → k < n → contains_zero (at t (cell n k k)) ≡ false

-- v stands at p and the call answers a, if v is in the range; else nothing changed, and it is 6 with this row
pub record Placed {A : Type 0} (a : A) (row : ℕ) (v : Interval) (p : ℕ) (before : List ℤ) (r : Result A Refusal) (after : List ℤ) : Type 0 where
  pub answer : r ≡ cond (in_range v) (Ok a) (Err (refusal.OutOfRange row))
  pub list : after ≡ cond (in_range v) (put before p v) before
  pub sound : Sound after

-- the row that a step takes, or its refusal
abbrev pub row_of : Result ℕ Refusal → Run ℕ
row_of (Ok i) = done i
row_of (Err o) = refused o

-- step k has taken its row, whose entry p is the pivot, or there is none
abbrev pub taking_of : Result Interval Refusal → Table → Run Table
taking_of (Ok p) s = done s
taking_of (Err o) s = refused o

pub record Took (n k : ℕ) (before : Table) (r : Result Interval Refusal) (after : Table) : Type 0 where
  pub is : taking_of r after ≡ taking lowest_row n k before
  pub pivot : (p : Interval) → r ≡ Ok p → (p ≡ at after.numbers (cell n k k)) × (contains_zero p ≡ false)
  pub sound : Sound after.numbers

-- a part of the calculation as a run
pub record Ran (run : Run (List ℤ)) (r : Result (Unit {0}) Refusal) (after : List ℤ) : Type 0 where
  pub is : run_of r after ≡ run
  pub sound : Sound after

-- and the forward part
pub record Reached (run : Run Table) (r : Result (Unit {0}) Refusal) (after : Table) : Type 0 where
  pub is : run_of r after ≡ run
  pub sound : Sound after.numbers
