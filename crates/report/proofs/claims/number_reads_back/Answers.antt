use Rattle.report.proofs.ReadBack.{number_back}
use Rattle.report.proofs.claims.number_reads_back.Goals as goal

pub returns : goal.returns
returns c = number_back
