use Rattle.sweep.specs.Code.{pass}
use Rattle.sweep.proofs.Log.{Midway}
use Rattle.sweep.proofs.internal.calls.repeat.Given as goal

abbrev pub invariant-loop-count : goal.invariant-loop-count
invariant-loop-count g l =
    let s = g.B.Balance.system l.balance in
    record {
      ready : g.B.Balance.is_ready l.balance l.x;
      midway : Midway s.size (pass l.way s) l.allowed l.initial.x l.count l.x;
    }
