use Rattle.std.proofs.Common.{w64, arith}
use mir.ValLaws.{to_z-of_z}
use Rattle.integer.proofs.Order.{taken}
use Rattle.wide_sum.proofs.Lowered.{lowered_is}
use Rattle.wide_sum.proofs.Wide.added.Goals as goal

pub returns-then-p-lt0 : goal.returns-then-p-lt0
returns-then-p-lt0 c =
    lowered_is c.ranges.p (taken _ _ (rw (to_z-of_z w64 c.args.p c.ranges.p) at c.if-p-lt0.true)) c.requires (omega arith) c.raised-v.ensures
