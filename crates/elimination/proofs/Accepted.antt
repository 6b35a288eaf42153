-- An elimination that returns 0 has gone to its end, and none returns 9.
use mathlib.Core.Path.{◌≡◌}
use mathlib.Core.List.{List}
use lib.IntN.{ℤ}
use lib.ListN.{length}
use Rattle.outcome.specs.Run.{done}
use Rattle.inputs.specs.System.{System}
use Rattle.inputs.proofs.Accepted.{to_end, not_spent}
use Rattle.rows.specs.Sum.{RowSum, once}
use Rattle.forward.specs.Pivot.{lowest_row}
use Rattle.elimination.specs.Call.{run_A, run_B, ended_A, ended_B, over_B}

-- 9 is said by sweeps alone
pub never_spent_B : (s : System) (lent : List ℤ) → (over_B s lent).number ≡ 9 → ⊥
never_spent_B s lent = not_spent (run_B lowest_row once s (length lent)) lent

module _ (sum : RowSum) (s : System) (lent : List ℤ) {x : List ℤ} where
  pub accepted_A : (ended_A lowest_row sum s lent).number ≡ 0 → x ≡ (ended_A lowest_row sum s lent).left → run_A lowest_row sum s (length lent) ≡ done x
  accepted_A = to_end (run_A lowest_row sum s (length lent)) lent

  pub accepted_B : (ended_B lowest_row sum s lent).number ≡ 0 → x ≡ (ended_B lowest_row sum s lent).left → run_B lowest_row sum s (length lent) ≡ done x
  accepted_B = to_end (run_B lowest_row sum s (length lent)) lent
