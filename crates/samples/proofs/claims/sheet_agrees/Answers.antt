use Rattle.samples.proofs.Agree.{prints}
use Rattle.samples.proofs.claims.sheet_agrees.Goals as goal

pub returns : goal.returns
returns c = prints
