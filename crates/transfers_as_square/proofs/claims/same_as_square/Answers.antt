use Rattle.transfers_as_square.proofs.Same.{same_as_square}
use Rattle.transfers_as_square.proofs.claims.same_as_square.Goals as goal

pub returns : goal.returns
returns c = same_as_square
