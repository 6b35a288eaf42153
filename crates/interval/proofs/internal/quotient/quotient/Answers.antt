use mathlib.Core.Path.{◌≡◌, ◌∙◌, ap₂}
use mathlib.Core.Bool.{true}
use lib.IntN.{pos}
use lib.Signed.{◌<ℤ◌}
use mir.Syntax.{w64}
use mir.ValLaws.{to_z-of_z}
use Rattle.integer.proofs.Order.{taken, left, neg_pos}
use Rattle.interval.specs.declared.Interval.{Interval}
use Rattle.interval.specs.Interval.{scale, acceptable, quotient}
use Rattle.interval.specs.Code.{negated}
use Rattle.interval.proofs.Range.{is_sound, sound_accepted, within_fits, negated_sound, all_below}
use Rattle.interval.proofs.Quotient.{quotient_turned}
use Rattle.interval.proofs.internal.quotient.quotient.Goals as goal
use Rattle.interval.proofs.internal.quotient.quotient.Goals.{Else-y-gt0}

pub quotient_by_positive-requires : goal.quotient_by_positive-requires
quotient_by_positive-requires c =
    let y = is_sound _ c.requires.y_value in
    record { x_value = c.requires.x_value; y_value = c.requires.y_value; pos_bound = taken _ _ (rw (to_z-of_z w64 _ (within_fits y.lo_in)) at c.if-y-gt0.true) }

-- the divisor lies below 0
below : (c : Else-y-gt0) → c.args.y.hi <ℤ pos 0
below c =
    let y = is_sound _ c.requires.y_value in
    all_below _ c.requires.y_value_2 (left _ _ (rw (to_z-of_z w64 _ (within_fits y.lo_in)) at c.if-y-gt0.false))

turned : (v : Interval) → acceptable v ≡ true → acceptable (negated v) ≡ true
turned v e = sound_accepted (negated v) (negated_sound (is_sound v e))

pub quotient_by_positive-requires-2 : goal.quotient_by_positive-requires-2
quotient_by_positive-requires-2 c =
    rw (c.negation.ensures, c.negation-2.ensures) record { x_value = turned _ c.requires.x_value; y_value = turned _ c.requires.y_value; pos_bound = neg_pos (below (goal.at.quotient_by_positive-requires-2 c).Else-y-gt0) }

pub returns : goal.returns
returns c =
    c.quotient_by_positive-2.ensures ∙ ap₂ quotient c.negation.ensures c.negation-2.ensures
    ∙ quotient_turned scale c.args.x c.args.y (is_sound _ c.requires.y_value).order (below (goal.at.returns c).Else-y-gt0)
