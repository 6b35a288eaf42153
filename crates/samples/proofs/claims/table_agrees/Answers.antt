use Rattle.samples.proofs.Agree.{agree}
use Rattle.samples.proofs.claims.table_agrees.Goals as goal

pub returns : goal.returns
returns c = agree
