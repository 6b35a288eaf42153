use borrow.Author.Rules.{rules}
use Rattle.interval.specs.Interval.{exact_difference}
use Rattle.interval.proofs.internal.difference.Goals as goal

pub overflow_sub-lo : goal.overflow_sub-lo
unfolding exact_difference
overflow_sub-lo c = search rules

pub overflow_sub-hi : goal.overflow_sub-hi
unfolding exact_difference
overflow_sub-hi c = search rules

pub returns : goal.returns
unfolding exact_difference
returns c = search rules
