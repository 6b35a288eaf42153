use borrow.Author.Rules.{rules}
use Rattle.interval.specs.Interval.{exact_sum}
use Rattle.interval.proofs.internal.sum.Goals as goal

pub overflow_add-lo : goal.overflow_add-lo
unfolding exact_sum
overflow_add-lo c = search rules

pub overflow_add-hi : goal.overflow_add-hi
unfolding exact_sum
overflow_add-hi c = search rules

pub returns : goal.returns
unfolding exact_sum
returns c = search rules
