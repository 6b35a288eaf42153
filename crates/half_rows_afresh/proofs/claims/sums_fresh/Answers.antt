use Rattle.half_rows_afresh.proofs.Runs.{sums_fresh}
use Rattle.half_rows_afresh.proofs.claims.sums_fresh.Goals as goal

pub returns : goal.returns
returns c = sums_fresh
