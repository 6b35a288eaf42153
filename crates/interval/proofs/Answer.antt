-- What the tests of the operands say, and what they make of an answer.
use mathlib.Core.Path.{◌≡◌}
use mathlib.Core.Bool.{true, false}
use Rattle.std.specs.Prelude.{Ok, Err}
use Rattle.outcome.specs.declared.Refusal.TheVariants as refusal
use Rattle.interval.specs.declared.Interval.{Interval}
use Rattle.interval.specs.declared.StepRefusal.TheVariants.{BadOperand}
use Rattle.interval.specs.Interval.{acceptable, contains_zero, quotient}
use Rattle.interval.specs.Answer.{refused, tested, ranged, divided}
use Rattle.interval.specs.Code.{Tests}

module _ (x y : Interval) where
  pub bad_first : acceptable x ≡ false → Tests x y (Err (BadOperand 0))
  unfolding tested
  bad_first e = record { is = λ a. rw e }

  pub bad_second : acceptable x ≡ true → acceptable y ≡ false → Tests x y (Err (BadOperand 1))
  unfolding tested
  bad_second e f = record { is = λ a. rw (e, f) }

  pub both_good : acceptable x ≡ true → acceptable y ≡ true → Tests x y (Ok tt)
  unfolding tested
  both_good e f = record { is = λ a. rw (e, f) }

  pub divided_by_zero : contains_zero y ≡ true → refused (refusal.ContainsZero 0) ≡ divided x y
  unfolding divided
  divided_by_zero e = rw e

  pub divided_by_other : contains_zero y ≡ false → ranged (quotient x y) ≡ divided x y
  unfolding divided
  divided_by_other e = rw e
