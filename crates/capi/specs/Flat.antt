-- The flat forms in which callers in other languages get an answer.
use Rattle.std.specs.Prelude.{◌≡◌, List, ℕ, ℤ, Result}
use Rattle.outcome.specs.declared.Refusal.{Refusal}
use Rattle.outcome.specs.Run.{Returned, returned, answered}
use Rattle.interval.specs.Interval.{ends}
use Rattle.interval.specs.Answer.{Answer}
use Rattle.sweep.specs.declared.Swept.{Swept}
use Rattle.report.specs.declared.Written.{Written}
use Rattle.report.specs.Call.{answer_of}
use Rattle.capi.specs.declared.steps.KifwalebStep.{KifwalebStep}
use Rattle.capi.specs.declared.systems.KifwalebOutcome.{KifwalebOutcome}

-- a step's answer; a step has no count
abbrev pub step_of : KifwalebStep → Answer
step_of r = record { number = r.number; place = r.place; count = 0; left = ends r.lo r.hi }

-- any other answer, and what stands in the lent slice
abbrev pub call_of : {A : Type 0} → KifwalebOutcome → A → Returned A
call_of r a = record { number = r.number; place = r.place; count = r.count; left = a }

-- the flat form of what a call without a count answers, whatever stands in the lent slice; and of what a sweep call answers
abbrev pub Answers : Result (Unit {0}) Refusal → KifwalebOutcome → Type 0
Answers r k = (a : List ℤ) → call_of k a ≡ answered r a

abbrev pub Counts : Swept → KifwalebOutcome → Type 0
Counts s k = (a : List ℤ) → call_of k a ≡ returned s.outcome s.count a

abbrev pub Sheets : Result Written Refusal → KifwalebOutcome → Type 0
Sheets r k = (a : List ℕ) → call_of k a ≡ answer_of r a
