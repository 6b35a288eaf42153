use Rattle.vectors.specs.Reader.{Passed}
use Rattle.vectors.proofs.reader.Reader.naturals.Given as goal

abbrev pub invariant-loop-x : goal.invariant-loop-x
invariant-loop-x g l = Passed l.fn.self l.self
