use Rattle.start_box_accuracy.proofs.Kept.{kept}
use Rattle.start_box_accuracy.proofs.claims.start_box_kept.Goals as goal

pub returns : goal.returns
returns c = kept
