use mathlib.Core.Path.{◌≡◌}
use Rattle.inputs.specs.Code.{Sound}
use Rattle.rows.specs.Sum.{once}
use Rattle.elimination.specs.Back.{back}
use Rattle.forward.specs.Code.{Pivots}
use Rattle.elimination.proofs.internal.back.back.Given as goal

abbrev pub invariant-loop-i : goal.invariant-loop-i
invariant-loop-i l =
    Sound l.t × Pivots l.n l.t × (back once l.n l.n l.initial.t ≡ back once l.n l.i l.t)
