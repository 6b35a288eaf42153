use Rattle.interval.proofs.Range.{is_sound, sum_representable}
use Rattle.interval.proofs.Interval.sum.Goals as goal

pub sum-requires : goal.sum-requires
sum-requires c = let e = c.in_ok-operands.ensures.ok in sum_representable (is_sound _ e.first) (is_sound _ e.second)
