use Rattle.fraction.proofs.Meaning.{meaning}
use Rattle.fraction.proofs.claims.meaning.Goals as goal

pub returns : goal.returns
returns c = meaning
