use Rattle.report.proofs.ReadBack.{line_back}
use Rattle.report.proofs.claims.line_reads_back.Goals as goal

pub returns : goal.returns
returns c = line_back
