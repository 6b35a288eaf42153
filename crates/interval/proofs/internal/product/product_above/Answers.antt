use mathlib.Core.Path.{sym, ◌∙◌}
use Rattle.integer.proofs.Order.{trans}
use Rattle.interval.specs.Interval.{exact_product}
use Rattle.interval.proofs.Range.{Sound, is_sound, product_safe, product_read, same_ends}
use Rattle.interval.proofs.Signs.{above_least_above, above_greatest_above}
use Rattle.interval.proofs.internal.product.product_above.Goals as goal

x_sound : (c : goal.After-struct_told-4-1) → Sound c.args.x
x_sound c = is_sound _ c.requires.x_value

y_sound : (c : goal.After-struct_told-4-1) → Sound c.args.y
y_sound c = is_sound _ c.requires.y_value

pub overflow_mul-lo : goal.overflow_mul-lo
overflow_mul-lo c = product_safe (x_sound c).lo_in (y_sound c).lo_in

pub overflow_mul-hi : goal.overflow_mul-hi
overflow_mul-hi c = product_safe (x_sound c).hi_in (y_sound c).hi_in

pub returns : goal.returns
unfolding exact_product
returns c =
    let x = x_sound c in
    let y = y_sound c in
    let h = c.requires.pos_bound in
    same_ends _ _
    (product_read x.lo_in y.lo_in ∙ sym (above_least_above x y h.0 h.1))
    (product_read x.hi_in y.hi_in ∙ sym (above_greatest_above x y h.0 (trans h.1 y.order)))
