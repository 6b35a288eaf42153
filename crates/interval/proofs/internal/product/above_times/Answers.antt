use mathlib.Core.Path.{sym, ◌∙◌}
use Rattle.interval.specs.Interval.{exact_product}
use Rattle.interval.proofs.Range.{Sound, is_sound, read, product_safe, product_read, above_taken, above_left, same_ends, chosen_safe, chosen_read}
use Rattle.interval.proofs.Signs.{above_least_below, above_greatest}
use Rattle.interval.proofs.internal.product.above_times.Goals as goal
use Rattle.interval.proofs.internal.product.above_times.Goals.{Start}

x_sound : (s : Start) → Sound s.args.x
x_sound s = is_sound _ s.requires.x_value

y_sound : (s : Start) → Sound s.args.y
y_sound s = is_sound _ s.requires.y_value

pub product_above-requires : goal.product_above-requires
product_above-requires c = record { x_value = c.requires.x_value; y_value = c.requires.y_value; pos_bound = (c.requires.pos_bound, above_taken (y_sound (goal.at.product_above-requires c).Start).lo_in c.if-c-ge0.true) }

pub greatest_end-e-requires : goal.greatest_end-e-requires
greatest_end-e-requires c = let x = x_sound (goal.at.greatest_end-e-requires c).Start in rw (read x.lo_in, read x.hi_in) x.order

pub overflow_mul-lo : goal.overflow_mul-lo
overflow_mul-lo c = product_safe (x_sound (goal.at.overflow_mul-lo c).Start).hi_in (y_sound (goal.at.overflow_mul-lo c).Start).lo_in

pub overflow_mul-hi : goal.overflow_mul-hi
overflow_mul-hi c =
    let x = x_sound (goal.at.overflow_mul-hi c).Start in
    chosen_safe x.lo_in x.hi_in (y_sound (goal.at.overflow_mul-hi c).Start).hi_in c.greatest_end-e.ensures

pub returns : goal.returns
unfolding exact_product
returns c =
    let x = x_sound (goal.at.returns c).Start in
    let y = y_sound (goal.at.returns c).Start in
    let h = c.requires.pos_bound in
    same_ends _ _
    (product_read x.hi_in y.lo_in ∙ sym (above_least_below x y h (above_left y.lo_in c.if-c-ge0.false)))
    (chosen_read x.lo_in x.hi_in y.hi_in c.greatest_end-e.ensures ∙ sym (above_greatest x y h))
