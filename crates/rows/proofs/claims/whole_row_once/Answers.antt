use Rattle.rows.proofs.Whole.{whole_row_once}
use Rattle.rows.proofs.claims.whole_row_once.Goals as goal

pub returns : goal.returns
returns c = whole_row_once
