-- What the contracts of the internal functions speak of. No public contract cites it.
use Rattle.std.specs.Prelude.{◌≡◌, ◌⊎◌, true, ℤ, pos, negsuc, neg_ℤ, ◌*ℤ◌, ◌≤ℤ◌, Result, Ok, Err}
use Rattle.std.specs.Int.{w64}
use Rattle.std.proofs.Common.{SFits}
use Rattle.integer.specs.Extremes.{maximum}
use Rattle.interval.specs.declared.Interval.{Interval}
use Rattle.interval.specs.declared.StepRefusal.{StepRefusal}
use Rattle.interval.specs.Interval.{acceptable}
use Rattle.interval.specs.Answer.{Answer, refused, refusal_of, tested}

-- both ends fit an i64: what the unchecked operations ask, so that the machine's numbers hold every value on the way
pub record Representable (v : Interval) : Type 0 where
  pub lo_fits : SFits w64 v.lo
  pub hi_fits : SFits w64 v.hi

-- both operands of a step are intervals
pub record Acceptable (x y : Interval) : Type 0 where
  pub first : acceptable x ≡ true
  pub second : acceptable y ≡ true

-- what a step answers whose tests say this, and which else answers a
abbrev pub after_tests : Result (Unit {0}) StepRefusal → Answer → Answer
after_tests (Ok _) a = a
after_tests (Err e) a = refused (refusal_of e)

-- the tests of the operands, whatever the step answers after them
pub record Tests (x y : Interval) (r : Result (Unit {0}) StepRefusal) : Type 0 where
  pub is : (a : Answer) → after_tests r a ≡ tested x y a

-- how large a product of two ends can be
abbrev pub Bounded : ℤ → Type 0
Bounded p = (negsuc 3_999_999_999_999_999_999 ≤ℤ p) × (p ≤ℤ pos 4_000_000_000_000_000_000)

-- all signs turned
abbrev pub negated : Interval → Interval
negated v = record { lo = neg_ℤ v.hi; hi = neg_ℤ v.lo }

-- e is a or b, and has the greater product with z
pub record GreatestWith (a b z e : ℤ) : Type 0 where
  pub one : (e ≡ a) ⊎ (e ≡ b)
  pub is : e *ℤ z ≡ maximum (a *ℤ z) (b *ℤ z)
