use mathlib.Core.Path.{◌≡◌}
use Rattle.inputs.specs.Place.{widths}
use Rattle.narrower.proofs.internal.sum_of_widths.Given as goal

abbrev pub invariant-loop-i : goal.invariant-loop-i
invariant-loop-i l = l.sum ≡ widths l.x l.i 0
