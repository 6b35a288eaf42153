use Rattle.std.proofs.Common.{length}
use Rattle.vectors.specs.Reader.{Passed}
use Rattle.vectors.proofs.calls.run_calls.Given as goal

abbrev pub invariant-loop-head : goal.invariant-loop-head
invariant-loop-head g l = Passed l.fn.reader l.reader

abbrev pub decreases-loop-head : goal.decreases-loop-head
decreases-loop-head g l = length l.reader.rest.now
