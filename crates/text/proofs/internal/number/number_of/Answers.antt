use mathlib.Core.Path.{sym, ap, ◌∙◌}
use native.Mathlib.Omega.{arith}
use lib.IntN.{ℤ}
use Rattle.std.specs.Prelude.{Option, Some}
use Rattle.text.proofs.Number.{number_none, number_below, number_plain, below_zero, below_some, units_read, turned_read}
use Rattle.text.proofs.internal.number.number_of.Goals as goal

pub returns-in_err-first : goal.returns-in_err-first
returns-in_err-first c = c.from_residual.ensures ∙ number_none _ c.in_err-first.ensures.cases

pub returns-in_err-unsigned : goal.returns-in_err-unsigned
returns-in_err-unsigned c =
    c.from_residual-in_err-unsigned.ensures ∙ number_plain c.in_ok-first.ensures.cases.0 c.if-first-ne45.true (sym c.in_err-unsigned.was ∙ c.unsigned.ensures.value)

pub returns-then-first-ne45 : goal.returns-then-first-ne45
returns-then-first-ne45 c =
    ap {B = Option ℤ} Some (units_read _ c.in_ok-unsigned.ensures.short) ∙ number_plain c.in_ok-first.ensures.cases.0 c.if-first-ne45.true (sym c.in_ok-unsigned.was ∙ c.unsigned.ensures.value)

pub returns-in_err-m : goal.returns-in_err-m
returns-in_err-m c =
    c.from_residual-in_err-m.ensures ∙ number_below c.in_ok-first.ensures.cases.0 c.if-first-ne45.false (sym c.in_err-m.was ∙ c.unsigned-2.ensures.value)

pub returns-in-0 : goal.returns-in-0
returns-in-0 c =
    below_zero _ c.in-0.is ∙ number_below c.in_ok-first.ensures.cases.0 c.if-first-ne45.false (sym c.in_ok-m.was ∙ c.unsigned-2.ensures.value)

pub returns-in_default : goal.returns-in_default
returns-in_default c =
    ap {B = Option ℤ} Some (turned_read _ c.in_ok-m.ensures.short) ∙ below_some _ (omega arith) ∙ number_below c.in_ok-first.ensures.cases.0 c.if-first-ne45.false (sym c.in_ok-m.was ∙ c.unsigned-2.ensures.value)
