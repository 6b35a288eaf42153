use Rattle.transfers_as_square.proofs.Covered.{list_covered}
use Rattle.transfers_as_square.proofs.claims.list_is_covered.Goals as goal

pub returns : goal.returns
returns c = list_covered
