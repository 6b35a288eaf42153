use Rattle.half_rows_afresh.proofs.There.{there_and_back}
use Rattle.half_rows_afresh.proofs.claims.there_and_back.Goals as goal

pub returns : goal.returns
returns c = there_and_back
