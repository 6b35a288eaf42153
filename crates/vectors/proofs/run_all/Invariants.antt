use Rattle.std.proofs.Common.{length}
use Rattle.vectors.proofs.run_all.Given as goal

abbrev pub decreases-loop-head : goal.decreases-loop-head
decreases-loop-head g l = length l.reader.rest.now
