use mathlib.Core.Path.{◌≡◌, sym, ◌∙◌}
use mathlib.Core.Bool.{true, false}
use native.Mathlib.Omega.{arith}
use lib.ListN.{get_or}
use Rattle.text.specs.Number.{is_digit}
use Rattle.text.proofs.Number.{digit_is, digit_within, digits_end, digits_go, digits_out, power_more, power_ten}
use Rattle.text.proofs.internal.number.all_digits.Goals as goal

pub returns-then-not-is_ascii_digit-clause-value : goal.returns-then-not-is_ascii_digit-clause-value
returns-then-not-is_ascii_digit-clause-value c =
    let e : is_digit (get_or c.args.s.now c.loop-b.b-index 0) ≡ false = sym (digit_is _) ∙ sym c.is_ascii_digit.ensures.value ∙ c.if-not-is_ascii_digit.true in
    sym (digits_out _ _ _ c.loop-b-test.true e) ∙ c.loop-b.invariant.1

pub loop-b-preserved : goal.loop-b-preserved
loop-b-preserved c =
    let e : is_digit (get_or c.args.s.now c.loop-b.b-index 0) ≡ true = sym (digit_is _) ∙ sym c.is_ascii_digit.ensures.value ∙ c.if-not-is_ascii_digit.false in (
      power_more 10 _ _ _ c.loop-b.invariant.0 (omega (arith, digit_within _ e)),
      sym (digits_go _ _ _ c.loop-b-test.true e) ∙ c.loop-b.invariant.1,
    )

pub returns-clause-value : goal.returns-clause-value
returns-clause-value c = sym (digits_end _ _ _ c.loop-b-test.false) ∙ c.loop-b.invariant.1

pub returns-clause-short : goal.returns-clause-short
returns-clause-short c = power_ten c.loop-b.b-index _ (omega arith) c.loop-b.invariant.0
