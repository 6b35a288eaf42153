use mathlib.Core.Path.{sym, ap₂, ◌∙◌}
use mir.Syntax.{w64}
use mir.ValLaws.{to_z-of_z}
use lib.Signed.{<ℤ-≤ℤ_trans}
use Rattle.integer.specs.Rounding.{floor_div}
use Rattle.integer.proofs.Order.{taken, left}
use Rattle.integer.proofs.Rounding.{floor_grows, floor_falls}
use Rattle.integer.proofs.Extremes.{min_is_left, min_is_right}
use Rattle.integer.proofs.Machine.{plain}
use Rattle.interval.proofs.internal.quotient.lower_quotient.Goals as goal

pub returns-then-a-lt0 : goal.returns-then-a-lt0
returns-then-a-lt0 c =
    let n = taken _ _ (rw (to_z-of_z w64 c.args.a c.ranges.a) at c.if-a-lt0.true) in
    plain _ c.floor_div.type_inv ∙ c.floor_div.ensures ∙ ap₂ floor_div (to_z-of_z w64 c.args.a c.ranges.a) (to_z-of_z w64 c.args.near c.ranges.near)
    ∙ sym (min_is_left (floor_grows _ _ _ c.requires.pos_bound c.requires.near_le_far n))

pub floor_div-requires-2 : goal.floor_div-requires-2
floor_div-requires-2 c = rw (to_z-of_z w64 c.args.far c.ranges.far) (<ℤ-≤ℤ_trans c.requires.pos_bound c.requires.near_le_far)

pub returns : goal.returns
returns c =
    let n = left _ _ (rw (to_z-of_z w64 c.args.a c.ranges.a) at c.if-a-lt0.false) in
    plain _ c.floor_div-2.type_inv ∙ c.floor_div-2.ensures ∙ ap₂ floor_div (to_z-of_z w64 c.args.a c.ranges.a) (to_z-of_z w64 c.args.far c.ranges.far)
    ∙ sym (min_is_right (floor_falls _ _ _ c.requires.pos_bound c.requires.near_le_far n))
