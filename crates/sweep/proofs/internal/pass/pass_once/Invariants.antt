use mathlib.Core.List.{◌++◌}
use Prim.Native.Nat.{◌-◌}
use Rattle.sweep.specs.Pass.{up, down}
use Rattle.sweep.specs.Code.{pass}
use Rattle.sweep.proofs.Turns.{back}
use Rattle.sweep.proofs.Pass.{Halfway}
use Rattle.sweep.proofs.internal.pass.pass_once.Given as goal

abbrev pub invariant-loop-i : goal.invariant-loop-i
invariant-loop-i g l =
    let s = g.B.Balance.system l.balance in
    Halfway s (pass l.fn.way s l.fn.x) (up (s.size - l.i) l.i ++ back l.way s.size) l.fn.x l.x l.changed

abbrev pub invariant-loop-i-2 : goal.invariant-loop-i-2
invariant-loop-i-2 g l =
    let s = g.B.Balance.system l.balance in
    Halfway s (pass l.fn.way s l.fn.x) (down l.i) l.fn.x l.x l.changed
