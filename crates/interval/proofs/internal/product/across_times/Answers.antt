use mathlib.Core.Path.{sym, ap₂, ◌∙◌}
use Rattle.integer.specs.Extremes.{minimum, maximum}
use Rattle.integer.proofs.Extremes.{min_is, max_is}
use Rattle.integer.proofs.Machine.{plain}
use Rattle.interval.specs.Interval.{exact_product}
use Rattle.interval.proofs.Range.{Sound, is_sound, product_safe, product_read, same_ends}
use Rattle.interval.proofs.Signs.{across_least, across_greatest}
use Rattle.interval.proofs.internal.product.across_times.Goals as goal
use Rattle.interval.proofs.internal.product.across_times.Goals.{Start}

sound : (c : Start) → Sound c.args.x × Sound c.args.y
sound c = (is_sound _ c.requires.x_value, is_sound _ c.requires.y_value)

pub overflow_mul-a : goal.overflow_mul-a
overflow_mul-a c = let s = sound (goal.at.overflow_mul-a c).Start in product_safe s.0.lo_in s.1.hi_in

pub overflow_mul-b : goal.overflow_mul-b
overflow_mul-b c = let s = sound (goal.at.overflow_mul-b c).Start in product_safe s.0.hi_in s.1.lo_in

pub overflow_mul-a-2 : goal.overflow_mul-a-2
overflow_mul-a-2 c = let s = sound (goal.at.overflow_mul-a-2 c).Start in product_safe s.0.lo_in s.1.lo_in

pub overflow_mul-b-2 : goal.overflow_mul-b-2
overflow_mul-b-2 c = let s = sound (goal.at.overflow_mul-b-2 c).Start in product_safe s.0.hi_in s.1.hi_in

pub returns : goal.returns
unfolding exact_product
returns c =
    let s = sound (goal.at.returns c).Start in
    let x = s.0 in
    let y = s.1 in
    let h = c.requires.lo_bound in
    same_ends _ _
    (plain _ c.min.type_inv ∙ c.min.ensures.value ∙ min_is _ _ ∙ ap₂ minimum (product_read x.lo_in y.hi_in) (product_read x.hi_in y.lo_in) ∙ sym (across_least x y h.0 h.1))
    (plain _ c.max.type_inv ∙ c.max.ensures.value ∙ max_is _ _ ∙ ap₂ maximum (product_read x.lo_in y.lo_in) (product_read x.hi_in y.hi_in) ∙ sym (across_greatest x y h.0 h.1))
