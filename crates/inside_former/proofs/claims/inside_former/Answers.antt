use Rattle.inside_former.proofs.Inside.{inside_former}
use Rattle.inside_former.proofs.claims.inside_former.Goals as goal

pub returns : goal.returns
returns c = inside_former
