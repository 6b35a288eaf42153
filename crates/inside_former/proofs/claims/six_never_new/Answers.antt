use Rattle.inside_former.proofs.Elimination.{six_never_new}
use Rattle.inside_former.proofs.claims.six_never_new.Goals as goal

pub returns : goal.returns
returns c = six_never_new
