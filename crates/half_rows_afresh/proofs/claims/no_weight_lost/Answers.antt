use Rattle.half_rows_afresh.proofs.Weights.{no_weight_lost}
use Rattle.half_rows_afresh.proofs.claims.no_weight_lost.Goals as goal

pub returns : goal.returns
returns c = no_weight_lost
