use Rattle.interval.proofs.Range.{Sound, is_sound, above_taken, above_left, negative_taken, negative_left}
use Rattle.interval.proofs.internal.product.exact_product.Goals as goal
use Rattle.interval.proofs.internal.product.exact_product.Goals.{Start}

x_sound : (s : Start) → Sound s.args.x
x_sound s = is_sound _ s.requires.x_value

pub above_times-requires : goal.above_times-requires
above_times-requires c = record { x_value = c.requires.x_value; y_value = c.requires.y_value; pos_bound = above_taken (x_sound (goal.at.above_times-requires c).Start).lo_in c.if-x-ge0.true }

pub below_times-requires : goal.below_times-requires
below_times-requires c =
    record { x_value = c.requires.x_value; y_value = c.requires.y_value; hi_bound = negative_taken (x_sound (goal.at.below_times-requires c).Start).hi_in c.if-x-lt0.true }

pub across_times-requires : goal.across_times-requires
across_times-requires c =
    let x = x_sound (goal.at.across_times-requires c).Start in
    record { x_value = c.requires.x_value; y_value = c.requires.y_value; lo_bound = (above_left x.lo_in c.if-x-ge0.false, negative_left x.hi_in c.if-x-lt0.false) }
