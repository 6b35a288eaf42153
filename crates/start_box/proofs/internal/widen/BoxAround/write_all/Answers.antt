use Rattle.start_box.proofs.Widen.{halfway_go}
use Rattle.start_box.proofs.internal.widen.BoxAround.write_all.Goals as goal

pub loop-i-preserved : goal.loop-i-preserved
loop-i-preserved c =
    halfway_go c.loop-i.invariant c.loop-i-test.true c.component-v.ensures c.write.ensures
