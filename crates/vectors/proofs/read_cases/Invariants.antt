use Rattle.std.proofs.Common.{length, ◌-◌, ◌≤◌}
use Rattle.vectors.proofs.read_cases.Given as goal

abbrev pub invariant-loop-more : goal.invariant-loop-more
invariant-loop-more g l = l.done ≤ length l.buf

abbrev pub decreases-loop-more : goal.decreases-loop-more
decreases-loop-more g l = length l.buf - l.done
