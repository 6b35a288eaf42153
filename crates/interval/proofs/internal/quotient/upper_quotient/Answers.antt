use mathlib.Core.Path.{sym, ap₂, ◌∙◌}
use mir.Syntax.{w64}
use mir.ValLaws.{to_z-of_z}
use lib.Signed.{<ℤ-≤ℤ_trans}
use Rattle.integer.specs.Rounding.{ceil_div}
use Rattle.integer.proofs.Order.{taken, left}
use Rattle.integer.proofs.Rounding.{ceil_falls, ceil_grows}
use Rattle.integer.proofs.Extremes.{max_is_left, max_is_right}
use Rattle.integer.proofs.Machine.{plain}
use Rattle.interval.proofs.internal.quotient.upper_quotient.Goals as goal

pub returns-then-b-gt0 : goal.returns-then-b-gt0
returns-then-b-gt0 c =
    let n = taken _ _ (rw (to_z-of_z w64 c.args.b c.ranges.b) at c.if-b-gt0.true) in
    plain _ c.ceil_div.type_inv ∙ c.ceil_div.ensures ∙ ap₂ ceil_div (to_z-of_z w64 c.args.b c.ranges.b) (to_z-of_z w64 c.args.near c.ranges.near)
    ∙ sym (max_is_left (ceil_falls _ _ _ c.requires.pos_bound c.requires.near_le_far n))

pub ceil_div-requires-2 : goal.ceil_div-requires-2
ceil_div-requires-2 c = rw (to_z-of_z w64 c.args.far c.ranges.far) (<ℤ-≤ℤ_trans c.requires.pos_bound c.requires.near_le_far)

pub returns : goal.returns
returns c =
    let n = left _ _ (rw (to_z-of_z w64 c.args.b c.ranges.b) at c.if-b-gt0.false) in
    plain _ c.ceil_div-2.type_inv ∙ c.ceil_div-2.ensures ∙ ap₂ ceil_div (to_z-of_z w64 c.args.b c.ranges.b) (to_z-of_z w64 c.args.far c.ranges.far)
    ∙ sym (max_is_right (ceil_grows _ _ _ c.requires.pos_bound c.requires.near_le_far n))
