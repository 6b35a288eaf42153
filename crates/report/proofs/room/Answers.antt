use Rattle.report.proofs.Call.{room_fits}
use Rattle.report.proofs.room.Goals as goal

pub returns-clause-long : goal.returns-clause-long
returns-clause-long c = room_fits _ _ c.lengths.ensures
