use Rattle.inside_former.proofs.Example.{seven_can_be_new}
use Rattle.inside_former.proofs.claims.seven_can_be_new.Goals as goal

pub returns : goal.returns
returns c = seven_can_be_new
