use Rattle.inside_ordinary.proofs.Inside.{inside_ordinary}
use Rattle.inside_ordinary.proofs.claims.inside_ordinary.Goals as goal

pub returns : goal.returns
returns c = inside_ordinary
