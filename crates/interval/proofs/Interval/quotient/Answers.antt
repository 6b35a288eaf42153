use mathlib.Core.Path.{sym, ap, ◌∙◌}
use Rattle.interval.specs.Answer.{ranged}
use Rattle.interval.proofs.Answer.{divided_by_zero, divided_by_other}
use Rattle.interval.proofs.Interval.quotient.Goals as goal

pub returns-then-contains_zero : goal.returns-then-contains_zero
returns-then-contains_zero c =
    divided_by_zero _ _ (sym c.contains_zero.ensures ∙ c.if-contains_zero.true) ∙ c.in_ok-operands.ensures.tested.is _

pub returns : goal.returns
returns c =
    c.in_range_only.ensures ∙ ap ranged c.quotient.ensures
    ∙ divided_by_other _ _ (sym c.contains_zero.ensures ∙ c.if-contains_zero.false) ∙ c.in_ok-operands.ensures.tested.is _
