use borrow.Author.Rules.{rules}
use Rattle.wide_sum.proofs.Lowered.{raised_is, both_added}
use Rattle.wide_sum.proofs.WideInterval.raised.Goals as goal

pub returns : goal.returns
returns c = both_added (raised_is (search rules) c.requires.pos_bound.0 c.raised.ensures) (raised_is (search rules) c.requires.pos_bound.1 c.raised-2.ensures)
