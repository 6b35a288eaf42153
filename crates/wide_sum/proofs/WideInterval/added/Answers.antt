use borrow.Author.Rules.{rules}
use Rattle.wide_sum.proofs.Lowered.{read_added, both_added}
use Rattle.wide_sum.proofs.WideInterval.added.Goals as goal

pub returns : goal.returns
returns c = both_added (read_added (search rules) c.added.ensures) (read_added (search rules) c.added-2.ensures)
