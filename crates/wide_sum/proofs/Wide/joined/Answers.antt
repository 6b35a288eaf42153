use Rattle.wide_sum.proofs.Joined.{joined_is}
use Rattle.wide_sum.proofs.Wide.joined.Goals as goal

pub returns : goal.returns
returns c = joined_is c.requires.0 c.requires.1 c.raised-u.ensures
