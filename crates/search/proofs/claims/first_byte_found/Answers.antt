use Rattle.search.proofs.Claim.{first_byte}
use Rattle.search.proofs.claims.first_byte_found.Goals as goal

pub returns : goal.returns
returns c = first_byte
