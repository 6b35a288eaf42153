use mathlib.Core.Path.{sym, ◌∙◌}
use Rattle.integer.proofs.Order.{trans}
use Rattle.interval.specs.Interval.{exact_product}
use Rattle.interval.proofs.Range.{Sound, is_sound, read, product_safe, product_read, negative_taken, negative_left, same_ends, chosen_safe, chosen_read}
use Rattle.interval.proofs.Signs.{below_least_below, below_least_above, below_greatest, below_greatest_below}
use Rattle.interval.proofs.internal.product.below_times.Goals as goal
use Rattle.interval.proofs.internal.product.below_times.Goals.{Start}

x_sound : (s : Start) → Sound s.args.x
x_sound s = is_sound _ s.requires.x_value

y_sound : (s : Start) → Sound s.args.y
y_sound s = is_sound _ s.requires.y_value

-- the right operand is below 0 too
pub overflow_mul-result : goal.overflow_mul-result
overflow_mul-result c = product_safe (x_sound (goal.at.overflow_mul-result c).Start).hi_in (y_sound (goal.at.overflow_mul-result c).Start).hi_in

pub overflow_mul-result-then-d-lt0 : goal.overflow_mul-result-then-d-lt0
overflow_mul-result-then-d-lt0 c = product_safe (x_sound (goal.at.overflow_mul-result-then-d-lt0 c).Start).lo_in (y_sound (goal.at.overflow_mul-result-then-d-lt0 c).Start).lo_in

pub returns-then-d-lt0 : goal.returns-then-d-lt0
unfolding exact_product
returns-then-d-lt0 c =
    let x = x_sound (goal.at.returns-then-d-lt0 c).Start in
    let y = y_sound (goal.at.returns-then-d-lt0 c).Start in
    let h = c.requires.hi_bound in
    let k = negative_taken y.hi_in c.if-d-lt0.true in
    same_ends _ _
    (product_read x.hi_in y.hi_in ∙ sym (below_least_below x y h k))
    (product_read x.lo_in y.lo_in ∙ sym (below_greatest_below x y h (trans y.order k)))

-- it is not
pub greatest_end-e-requires : goal.greatest_end-e-requires
greatest_end-e-requires c = let x = x_sound (goal.at.greatest_end-e-requires c).Start in rw (read x.lo_in, read x.hi_in) x.order

pub overflow_mul-lo : goal.overflow_mul-lo
overflow_mul-lo c = product_safe (x_sound (goal.at.overflow_mul-lo c).Start).lo_in (y_sound (goal.at.overflow_mul-lo c).Start).hi_in

pub overflow_mul-hi : goal.overflow_mul-hi
overflow_mul-hi c =
    let x = x_sound (goal.at.overflow_mul-hi c).Start in
    chosen_safe x.lo_in x.hi_in (y_sound (goal.at.overflow_mul-hi c).Start).lo_in c.greatest_end-e.ensures

pub returns : goal.returns
unfolding exact_product
returns c =
    let x = x_sound (goal.at.returns c).Start in
    let y = y_sound (goal.at.returns c).Start in
    let h = c.requires.hi_bound in
    same_ends _ _
    (product_read x.lo_in y.hi_in ∙ sym (below_least_above x y h (negative_left y.hi_in c.if-d-lt0.false)))
    (chosen_read x.lo_in x.hi_in y.lo_in c.greatest_end-e.ensures ∙ sym (below_greatest x y h))
