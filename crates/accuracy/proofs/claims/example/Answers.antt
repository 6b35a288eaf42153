use Rattle.accuracy.proofs.Example.{example}
use Rattle.accuracy.proofs.claims.example.Goals as goal

pub returns : goal.returns
returns c = example
