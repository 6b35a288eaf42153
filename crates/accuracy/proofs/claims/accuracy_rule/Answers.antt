use Rattle.accuracy.proofs.Rule.{accuracy}
use Rattle.accuracy.proofs.claims.accuracy_rule.Goals as goal

pub returns : goal.returns
returns c = accuracy
