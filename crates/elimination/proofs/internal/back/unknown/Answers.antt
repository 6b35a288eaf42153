use mathlib.Core.Path.{◌≡◌, sym, ap, ap₂, ◌∙◌}
use mathlib.Core.Bool.{true}
use native.Mathlib.Omega.{arith}
use Rattle.interval.specs.Interval.{in_range, quotient}
use Rattle.rows.specs.Sum.{once}
use Rattle.elimination.specs.Back.{numerator}
use Rattle.forward.proofs.Value.{quotient_order}
use Rattle.elimination.proofs.Back.{numerator_is, numerator_fits, numerator_accepted, unknown_placed, unknown_not}
use Rattle.elimination.proofs.internal.back.unknown.Goals as goal
use Rattle.elimination.proofs.internal.back.unknown.Goals.{After-difference-v, Else-not-in_range}

pub difference-v-requires : goal.difference-v-requires
difference-v-requires c =
    rw (numerator_is _ _ _ _ _ c.read-f.ensures c.row_sum-s.ensures) (numerator_fits _ _ _ c.requires.0)

-- the numerator of row i
value : (c : After-difference-v) → c.difference-v.result ≡ numerator once c.args.n c.args.i c.args.t.now
value c = c.difference-v.ensures ∙ numerator_is _ _ _ _ _ c.read-f.ensures c.row_sum-s.ensures

pub returns-then-not-in_range-clause-ran : goal.returns-then-not-in_range-clause-ran
returns-then-not-in_range-clause-ran c =
    unknown_not _ _ _ c.requires.0.sound (ap in_range (sym (value (goal.at.returns-then-not-in_range-clause-ran c).After-difference-v)) ∙ sym c.in_range.ensures ∙ c.if-not-in_range.true)

-- and what its test says
tested : (c : Else-not-in_range) → c.difference-v.result ≡ numerator once c.args.n c.args.i c.args.t.now → in_range (numerator once c.args.n c.args.i c.args.t.now) ≡ true
tested c v = ap in_range (sym v) ∙ sym c.in_range.ensures ∙ c.if-not-in_range.false

pub quotient-w-requires-clause-x_value : goal.quotient-w-requires-clause-x_value
quotient-w-requires-clause-x_value c =
    let a = goal.at.quotient-w-requires-clause-x_value c in
    let v = value a.After-difference-v in
    rw v (numerator_accepted _ _ _ c.requires.0 (tested a.Else-not-in_range v))

pub place-requires : goal.place-requires
place-requires c =
    let a = goal.at.place-requires c in
    let v = value a.After-difference-v in (
      c.requires.0.sound,
      omega (arith, c.requires.0.room, c.requires.1),
      rw (c.quotient-w.ensures, v, c.read-a.ensures) (quotient_order _ _ (numerator_accepted _ _ _ c.requires.0 (tested a.Else-not-in_range v)) (c.requires.0.sound.each _) c.requires.2),
    )

pub returns-clause-ran : goal.returns-clause-ran
returns-clause-ran c =
    let a = goal.at.returns-clause-ran c in
    let v = value a.After-difference-v in
    unknown_placed _ _ _ _ (tested a.Else-not-in_range v) (c.quotient-w.ensures ∙ ap₂ quotient v c.read-a.ensures) c.place.ensures
