use Rattle.inside_ordinary.proofs.Same.{same_settled}
use Rattle.inside_ordinary.proofs.claims.same_settled.Goals as goal

pub returns : goal.returns
returns c = same_settled
