use mathlib.Core.Path.{sym, ◌∙◌}
use lib.Signed.{lt_z_yes}
use mir.Syntax.{w64}
use mir.ValLaws.{to_z-of_z}
use Rattle.integer.proofs.Machine.{plain}
use Rattle.integer.proofs.Order.{lt_le}
use Rattle.interval.specs.Interval.{scale}
use Rattle.interval.proofs.Range.{is_sound, within_fits, product_fits, scale_within, scaled_read, same_ends}
use Rattle.interval.proofs.Quotient.{positive}
use Rattle.interval.proofs.internal.quotient.quotient_by_positive.Goals as goal

pub overflow_mul-a : goal.overflow_mul-a
unfolding scale
overflow_mul-a c =
    let x = is_sound _ c.requires.x_value in
    rw (to_z-of_z w64 _ (within_fits x.lo_in)) (product_fits x.lo_in scale_within)

pub overflow_mul-b : goal.overflow_mul-b
unfolding scale
overflow_mul-b c =
    let x = is_sound _ c.requires.x_value in
    rw (to_z-of_z w64 _ (within_fits x.hi_in)) (product_fits x.hi_in scale_within)

pub lower_quotient-lo-requires : goal.lower_quotient-lo-requires
lower_quotient-lo-requires c =
    let y = is_sound _ c.requires.y_value in
    rw (to_z-of_z w64 _ (within_fits y.lo_in), to_z-of_z w64 _ (within_fits y.hi_in)) record { pos_bound = c.requires.pos_bound; near_le_far = y.order }

pub upper_quotient-hi-requires : goal.upper_quotient-hi-requires
upper_quotient-hi-requires c = lower_quotient-lo-requires c.before

pub returns : goal.returns
unfolding scale
returns c =
    let x = is_sound _ c.requires.x_value in
    let y = is_sound _ c.requires.y_value in
    let near = to_z-of_z w64 _ (within_fits y.lo_in) in
    let far = to_z-of_z w64 _ (within_fits y.hi_in) in
    let e = positive scale c.args.x c.args.y (lt_le (lt_z_yes tt)) x.order c.requires.pos_bound y.order in
    same_ends _ _
    (plain _ c.lower_quotient-lo.type_inv ∙ c.lower_quotient-lo.ensures ∙ rw (scaled_read x.lo_in, near, far) (sym e.0))
    (plain _ c.upper_quotient-hi.type_inv ∙ c.upper_quotient-hi.ensures ∙ rw (scaled_read x.hi_in, near, far) (sym e.1))
