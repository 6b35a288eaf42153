use mathlib.Core.Path.{◌≡◌}
use Prim.Native.Nat.{◌-◌}
use Rattle.inputs.specs.Code.{Sound}
use Rattle.forward.specs.Formed.{formed_rows}
use Rattle.forward.proofs.internal.formed.formed_rows.Given as goal

abbrev pub invariant-loop-i : goal.invariant-loop-i
invariant-loop-i l = Sound l.t × (formed_rows l.n l.n 0 l.initial.t ≡ formed_rows l.n (l.n - l.i) l.i l.t)
