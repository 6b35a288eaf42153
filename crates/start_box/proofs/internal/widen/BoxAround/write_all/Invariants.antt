use Rattle.start_box.specs.Code.{components_of}
use Rattle.start_box.proofs.Widen.{Halfway}
use Rattle.start_box.proofs.internal.widen.BoxAround.write_all.Given as goal

abbrev pub invariant-loop-i : goal.invariant-loop-i
invariant-loop-i l = Halfway (components_of l.self) l.self.n l.i l.bounds
