use Rattle.rows.proofs.Encloses.{once_encloses}
use Rattle.rows.proofs.claims.once_encloses.Goals as goal

pub returns : goal.returns
returns c = once_encloses
