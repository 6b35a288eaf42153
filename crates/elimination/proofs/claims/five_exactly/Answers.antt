use Rattle.elimination.proofs.Five.{five_exactly}
use Rattle.elimination.proofs.claims.five_exactly.Goals as goal

pub returns : goal.returns
returns c = five_exactly
