use Rattle.elimination.proofs.Same.{same_unless_five}
use Rattle.elimination.proofs.claims.same_unless_five.Goals as goal

pub returns : goal.returns
returns c = same_unless_five
