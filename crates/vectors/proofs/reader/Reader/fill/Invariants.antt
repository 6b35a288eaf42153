use Rattle.vectors.specs.Reader.{Passed}
use Rattle.vectors.proofs.reader.Reader.fill.Given as goal

abbrev pub invariant-loop-z : goal.invariant-loop-z
invariant-loop-z l = Passed l.fn.self l.self
