use mathlib.Core.Path.{◌≡◌, ap, ◌∙◌}
use lib.IntN.{ℤ}
use mir.Syntax.{w64}
use mir.Val.{to_z, of_z}
use Rattle.integer.specs.Rounding.{floor_div, ceil_div}
use Rattle.integer.proofs.Machine.{plain}
use Rattle.interval.specs.declared.Interval.{Interval}
use Rattle.interval.specs.Interval.{scale, least_product, greatest_product, exact_product, rounded, product_at}
use Rattle.interval.proofs.Range.{is_sound, same_ends}
use Rattle.interval.proofs.Scaled.{least_bounded, greatest_bounded, bounded_read}
use Rattle.interval.proofs.internal.product.product.Goals as goal
use Rattle.interval.proofs.internal.product.product.Goals.{After-exact_product-p}

low : (c : After-exact_product-p) → to_z w64 (of_z w64 c.exact_product-p.result.lo) ≡ least_product c.args.x c.args.y
unfolding exact_product
low c =
    ap (λ (v : Interval). to_z w64 (of_z w64 v.lo)) c.exact_product-p.ensures ∙ bounded_read (least_bounded (is_sound _ c.requires.x_value) (is_sound _ c.requires.y_value))

high : (c : After-exact_product-p) → to_z w64 (of_z w64 c.exact_product-p.result.hi) ≡ greatest_product c.args.x c.args.y
unfolding exact_product
high c =
    ap (λ (v : Interval). to_z w64 (of_z w64 v.hi)) c.exact_product-p.ensures ∙ bounded_read (greatest_bounded (is_sound _ c.requires.x_value) (is_sound _ c.requires.y_value))

pub scaled_down-lo-requires : goal.scaled_down-lo-requires
scaled_down-lo-requires c =
    let q = least_bounded (is_sound _ c.requires.x_value) (is_sound _ c.requires.y_value) in rw (low (goal.at.scaled_down-lo-requires c).After-exact_product-p) (record { negsuc_bound = q.0; p_bound = q.1 })

pub scaled_up-hi-requires : goal.scaled_up-hi-requires
scaled_up-hi-requires c =
    let q = greatest_bounded (is_sound _ c.requires.x_value) (is_sound _ c.requires.y_value) in rw (high (goal.at.scaled_up-hi-requires c).After-exact_product-p) (record { negsuc_bound = q.0; p_bound = q.1 })

pub returns : goal.returns
unfolding product_at rounded exact_product
returns c =
    same_ends _ _
    (plain _ c.scaled_down-lo.type_inv ∙ c.scaled_down-lo.ensures ∙ ap (λ (p : ℤ). floor_div p scale) (low (goal.at.returns c).After-exact_product-p))
    (plain _ c.scaled_up-hi.type_inv ∙ c.scaled_up-hi.ensures ∙ ap (λ (p : ℤ). ceil_div p scale) (high (goal.at.returns c).After-exact_product-p))
