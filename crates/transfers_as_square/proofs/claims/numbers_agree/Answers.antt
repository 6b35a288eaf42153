use Rattle.transfers_as_square.proofs.Agree.{numbers_agree}
use Rattle.transfers_as_square.proofs.claims.numbers_agree.Goals as goal

pub returns : goal.returns
returns c = numbers_agree
