-- Document 01, Elimination: 'Then for i from n down to 1: numerator = f(i) minus the sum of a(i,j)·x(j) over j > i; x(i) =
-- numerator / a(i,i).'
use Rattle.std.specs.Prelude.{List, ℕ, zero, suc, ◌+◌, ◌-◌, ℤ}
use Rattle.interval.specs.declared.Interval.{Interval}
use Rattle.interval.specs.Interval.{exact_difference, quotient}
use Rattle.inputs.specs.Place.{at, put, cell}
use Rattle.rows.specs.Sum.{RowSum}
use Rattle.outcome.specs.Run.{Run, done}
use Rattle.forward.specs.Run.{in_range_then, rhs}

-- x(j) stands in the place of f(j), for j > i
unfoldable pub numerator : RowSum → (n i : ℕ) → List ℤ → Interval
numerator sum n i t = exact_difference (at t (rhs n i)) (sum t (cell n i (i + 1)) t (rhs n (i + 1)) (n - (i + 1)))

-- the rows i − 1, .., 0
unfoldable pub back : RowSum → (n i : ℕ) → List ℤ → Run (List ℤ)
back sum n zero t = done t
back sum n (suc i) t =
    in_range_then (i + 1) (numerator sum n i t)
    (λ v. in_range_then (i + 1) (quotient v (at t (cell n i i))) (λ w. back sum n i (put t (rhs n i) w)))
