use Rattle.kept_sums.proofs.Words.{put_both}
use Rattle.kept_sums.proofs.internal.write_sum.Goals as goal

pub returns : goal.returns
returns c = put_both _ _ c.args.v c.write_end.ensures c.write_end-2.ensures
