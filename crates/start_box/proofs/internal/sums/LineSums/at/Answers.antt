use Rattle.start_box.proofs.Lines.{line_safe, line_next}
use Rattle.start_box.proofs.internal.sums.LineSums.at.Goals as goal

pub overflow_add-sum : goal.overflow_add-sum
overflow_add-sum c =
    let s = c.args.self.now in
    line_safe s.square s.stride s.step c.args.i c.loop-k.k c.loop-k-test.true c.loop-k.invariant c.read-v.ensures c.magnitude-sum.ensures

pub loop-k-preserved : goal.loop-k-preserved
loop-k-preserved c =
    let s = c.args.self.now in
    line_next s.square s.stride s.step c.args.i c.loop-k.k c.loop-k-test.true c.loop-k.invariant c.read-v.ensures c.magnitude-sum.ensures
