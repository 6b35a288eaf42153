-- What the functions beneath the two calls promise each other.
use Rattle.std.specs.Prelude.{List, ℕ, ◌+◌, ℤ}
use Rattle.interval.specs.Interval.{quotient}
use Rattle.inputs.specs.Place.{at, put, cell}
use Rattle.outcome.specs.Run.{Run, done}
use Rattle.rows.specs.Sum.{once}
use Rattle.forward.specs.Run.{in_range_then, rhs}
use Rattle.elimination.specs.Back.{numerator}

-- x(i) in the place of f(i), if its numerator and it are in the range: one row of the back-substitution
unfoldable pub unknown : (n i : ℕ) → List ℤ → Run (List ℤ)
unknown n i t =
    in_range_then (i + 1) (numerator once n i t) (λ v. in_range_then (i + 1) (quotient v (at t (cell n i i))) (λ w. done (put t (rhs n i) w)))
