use Rattle.start_box_accuracy.proofs.Holds.{holds}
use Rattle.start_box_accuracy.proofs.claims.start_box_holds.Goals as goal

pub returns : goal.returns
returns c = holds
