use Rattle.transfers.proofs.Good.{one_refuses}
use Rattle.transfers.proofs.internal.found.tried_rows.Goals as goal

pub unwrap_err-requires : goal.unwrap_err-requires
unwrap_err-requires c = one_refuses _ _ c.judged.ensures c.in-None.ensures
