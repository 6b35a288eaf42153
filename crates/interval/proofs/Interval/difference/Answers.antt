use Rattle.interval.proofs.Range.{is_sound, difference_representable}
use Rattle.interval.proofs.Interval.difference.Goals as goal

pub difference-requires : goal.difference-requires
difference-requires c = let e = c.in_ok-operands.ensures.ok in difference_representable (is_sound _ e.first) (is_sound _ e.second)
