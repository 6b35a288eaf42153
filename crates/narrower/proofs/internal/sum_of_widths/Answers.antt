use native.Mathlib.Omega.{arith}
use Rattle.narrower.proofs.Box.{is_a_box}
use Rattle.narrower.proofs.Sum.{width_safe, sum_safe, sum_next, sum_end}
use Rattle.narrower.proofs.internal.sum_of_widths.Goals as goal

pub overflow_sub-sum : goal.overflow_sub-sum
overflow_sub-sum c = width_safe (is_a_box _ _ c.requires) _ c.read-v.ensures

pub overflow_add-sum : goal.overflow_add-sum
overflow_add-sum c =
    sum_safe (is_a_box _ _ c.requires) _ c.read-v.ensures c.loop-i-test.true c.loop-i.invariant

pub loop-i-preserved : goal.loop-i-preserved
loop-i-preserved c =
    sum_next (is_a_box _ _ c.requires) _ c.read-v.ensures c.loop-i-test.true c.loop-i.invariant

pub returns : goal.returns
returns c = sum_end (is_a_box _ _ c.requires) c.loop-i.invariant (omega arith)
