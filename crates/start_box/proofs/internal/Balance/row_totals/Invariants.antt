use mathlib.Core.Path.{◌≡◌}
use lib.IntN.{◌*ℤ◌}
use Rattle.integer.specs.Rounding.{ceil_div}
use Rattle.integer.specs.Total.{total}
use Rattle.interval.specs.Interval.{scale}
use Rattle.start_box.specs.Reach.{coefficients, constants}
use Rattle.start_box.specs.Code.{system_of}
use Rattle.start_box.proofs.internal.Balance.row_totals.Given as goal

abbrev pub invariant-loop-j : goal.invariant-loop-j
invariant-loop-j l =
    let s = system_of l.self in
    (l.sum ≡ total (coefficients s l.i) l.j 0) × (l.dividend ≡ total (λ j. ceil_div (coefficients s l.i j *ℤ constants s j) scale) l.j 0)
