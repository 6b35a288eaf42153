-- Document 01, Bounds in units and Outcomes: what each of the four public calls returns, in the table's numbers.
use Rattle.std.specs.Prelude.{cond, Result, Ok, Err}
use Rattle.outcome.specs.Run.{Returned, returned}
use Rattle.outcome.specs.declared.Ending.TheVariants.{Done}
use Rattle.outcome.specs.declared.Refusal.{Refusal}
use Rattle.outcome.specs.declared.Refusal.TheVariants as refusal
use Rattle.interval.specs.declared.Interval.{Interval}
use Rattle.interval.specs.declared.StepRefusal.{StepRefusal}
use Rattle.interval.specs.declared.StepRefusal.TheVariants.{BadOperand, ZeroDivisor, OutOfRange}
use Rattle.interval.specs.Interval.{zero, in_range, acceptable, contains_zero, exact_sum, exact_difference, product, quotient}

-- number, place and the interval; a step has no count
abbrev pub Answer : Type 0
Answer = Returned Interval

abbrev pub value : Interval → Answer
value v = returned (Ok Done) 0 v

-- document 01 leaves the interval of a refusal free: it is nought
abbrev pub refused : Refusal → Answer
refused o = returned (Err o) 0 zero

-- 'For a single step 3 has place 0 or 1 for the operand, 5 and 6 have place 0'
abbrev pub refusal_of : StepRefusal → Refusal
refusal_of (BadOperand operand) = refusal.Ends operand
refusal_of ZeroDivisor = refusal.ContainsZero 0
refusal_of OutOfRange = refusal.OutOfRange 0

abbrev pub answer_of : Result Interval StepRefusal → Answer
answer_of (Ok v) = value v
answer_of (Err e) = refused (refusal_of e)

-- 'Each test before the calculation returns the lowest place at which it fails'
unfoldable pub tested : Interval → Interval → Answer → Answer
tested x y a = cond (acceptable x) (cond (acceptable y) a (refused (refusal.Ends 1))) (refused (refusal.Ends 0))

-- 'a result out of the range'
unfoldable pub ranged : Interval → Answer
ranged v = cond (in_range v) (value v) (refused (refusal.OutOfRange 0))

abbrev pub sum_answer : Interval → Interval → Answer
sum_answer x y = tested x y (ranged (exact_sum x y))

abbrev pub difference_answer : Interval → Interval → Answer
difference_answer x y = tested x y (ranged (exact_difference x y))

abbrev pub product_answer : Interval → Interval → Answer
product_answer x y = tested x y (ranged (product x y))

-- 'A divisor that contains 0, its ends included, is refused'
unfoldable pub divided : Interval → Interval → Answer
divided x y = cond (contains_zero y) (refused (refusal.ContainsZero 0)) (ranged (quotient x y))

abbrev pub quotient_answer : Interval → Interval → Answer
quotient_answer x y = tested x y (divided x y)
