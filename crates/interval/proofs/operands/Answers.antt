use mathlib.Core.Path.{sym, ◌∙◌}
use Rattle.interval.proofs.Answer.{bad_first, bad_second, both_good}
use Rattle.interval.proofs.operands.Goals as goal

pub returns-then-not-is_acceptable-clause-tested : goal.returns-then-not-is_acceptable-clause-tested
returns-then-not-is_acceptable-clause-tested c = bad_first _ _ (sym c.is_acceptable.ensures ∙ c.if-not-is_acceptable.true)

pub returns-then-not-is_acceptable-2-clause-tested : goal.returns-then-not-is_acceptable-2-clause-tested
returns-then-not-is_acceptable-2-clause-tested c =
    bad_second _ _ (sym c.is_acceptable.ensures ∙ c.if-not-is_acceptable.false) (sym c.is_acceptable-2.ensures ∙ c.if-not-is_acceptable-2.true)

pub returns-clause-tested : goal.returns-clause-tested
returns-clause-tested c =
    both_good _ _ (sym c.is_acceptable.ensures ∙ c.if-not-is_acceptable.false) (sym c.is_acceptable-2.ensures ∙ c.if-not-is_acceptable-2.false)
