use Rattle.report.proofs.ReadBack.{sheet_back}
use Rattle.report.proofs.claims.sheet_reads_back.Goals as goal

pub returns : goal.returns
returns c = sheet_back
