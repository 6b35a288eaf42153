use Rattle.sheet_accuracy.proofs.Covered.{covered}
use Rattle.sheet_accuracy.proofs.claims.sheet_is_covered.Goals as goal

pub returns : goal.returns
returns c = covered
