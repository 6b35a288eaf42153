use mathlib.Core.Path.{◌≡◌}
use Prim.Native.Nat.{◌-◌}
use Rattle.inputs.specs.Code.{Sound}
use Rattle.forward.specs.Formed.{formed_row}
use Rattle.forward.proofs.internal.formed.formed_row.Given as goal

abbrev pub invariant-loop-j : goal.invariant-loop-j
invariant-loop-j l = Sound l.t × (formed_row l.n l.i l.n 0 l.initial.t ≡ formed_row l.n l.i (l.n - l.j) l.j l.t)
