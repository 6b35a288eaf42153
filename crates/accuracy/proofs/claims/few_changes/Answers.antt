use Rattle.accuracy.proofs.Widths.{few_changes}
use Rattle.accuracy.proofs.claims.few_changes.Goals as goal

pub returns : goal.returns
returns c = few_changes
