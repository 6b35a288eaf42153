use Rattle.std.proofs.Common.{length}
use Rattle.vectors.specs.Reader.{Passed}
use Rattle.vectors.proofs.reader.Reader.natural.Given as goal

abbrev pub invariant-loop-first : goal.invariant-loop-first
invariant-loop-first l = Passed l.fn.self l.self

abbrev pub decreases-loop-first : goal.decreases-loop-first
decreases-loop-first l = length l.self.rest.now
