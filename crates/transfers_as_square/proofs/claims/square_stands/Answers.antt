use Rattle.transfers_as_square.proofs.Stands.{square_stands}
use Rattle.transfers_as_square.proofs.claims.square_stands.Goals as goal

pub returns : goal.returns
returns c = square_stands
