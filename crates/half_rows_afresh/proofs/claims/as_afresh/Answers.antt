use Rattle.half_rows_afresh.proofs.Runs.{as_afresh}
use Rattle.half_rows_afresh.proofs.claims.as_afresh.Goals as goal

pub returns : goal.returns
returns c = as_afresh
