use Rattle.wide_sum.proofs.Joined.{both_joined}
use Rattle.wide_sum.proofs.WideInterval.joined.Goals as goal

pub returns : goal.returns
returns c = both_joined c.joined.ensures c.joined-2.ensures
