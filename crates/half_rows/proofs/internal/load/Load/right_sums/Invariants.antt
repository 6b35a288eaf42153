use mathlib.Core.Path.{◌≡◌}
use mathlib.Core.Bool.{true}
use Prim.Native.Nat.{◌-◌}
use Rattle.inputs.specs.System.{system}
use Rattle.half_rows.specs.Rows.{sides}
use Rattle.half_rows.proofs.internal.load.Load.right_sums.Given as goal

abbrev pub invariant-loop-i : goal.invariant-loop-i
invariant-loop-i l =
    let s = l.self in
    let lent = system s.n s.matrix.now s.right.now in
    sides true lent s.bounds.now s.n 0 l.initial.sums ≡ sides true lent s.bounds.now (s.n - l.i) l.i l.sums
