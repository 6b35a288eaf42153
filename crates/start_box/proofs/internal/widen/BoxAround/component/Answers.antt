use mathlib.Core.Path.{ap, ◌∙◌}
use lib.IntN.{◌+ℤ◌, ◌-ℤ◌}
use Rattle.interval.specs.Interval.{ends}
use Rattle.interval.proofs.Range.{Sound, Within, is_within, is_sound, sum_fits, difference_fits, within_fits}
use Rattle.integer.proofs.Machine.{op_safe, op_read}
use Rattle.start_box.specs.Call.{widened}
use Rattle.start_box.proofs.internal.widen.BoxAround.component.Goals.{After-read-v}
use Rattle.start_box.proofs.internal.widen.BoxAround.component.Goals as goal

-- the component that is read, and the distance
component : (c : After-read-v) → Sound c.read-v.result
component c = is_sound _ (rw c.read-v.ensures (c.args.self.now.tested.sound.each _))

distance : (c : After-read-v) → Within c.args.self.now.distance
distance c = is_within _ c.args.self.now.in_range

pub overflow_sub-lo : goal.overflow_sub-lo
overflow_sub-lo c =
    let v = component (goal.at.overflow_sub-lo c).After-read-v in
    let d = distance (goal.at.overflow_sub-lo c).After-read-v in
    op_safe ◌-ℤ◌ _ _ (within_fits v.lo_in) (within_fits d) (difference_fits v.lo_in d)

pub overflow_add-hi : goal.overflow_add-hi
overflow_add-hi c =
    let v = component (goal.at.overflow_add-hi c).After-read-v in
    let d = distance (goal.at.overflow_add-hi c).After-read-v in
    op_safe ◌+ℤ◌ _ _ (within_fits v.hi_in) (within_fits d) (sum_fits v.hi_in d)

pub returns : goal.returns
unfolding widened
returns c =
    let v = component (goal.at.returns c).After-read-v in
    let d = distance (goal.at.returns c).After-read-v in
    (λ i. ends (op_read ◌-ℤ◌ _ _ (within_fits v.lo_in) (within_fits d) (difference_fits v.lo_in d) i) (op_read ◌+ℤ◌ _ _ (within_fits v.hi_in) (within_fits d) (sum_fits v.hi_in d) i))
    ∙ ap (λ w. ends (w.lo -ℤ c.args.self.now.distance) (w.hi +ℤ c.args.self.now.distance)) c.read-v.ensures
