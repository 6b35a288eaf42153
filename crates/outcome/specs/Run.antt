-- How calls end: refused with a row of the table, or done with a result; and what a caller gets back.
use Rattle.std.specs.Prelude.{ℕ, Result, Ok, Err}
use Rattle.outcome.specs.declared.Ending.TheVariants.{Done}
use Rattle.outcome.specs.declared.Refusal.{Refusal}
use Rattle.outcome.specs.Table.{Outcome, number_and_place}

-- a call, or a part of its calculation
pub data Run (A : Type 0) : Type 0 where
  refused : Refusal → Run A
  done : A → Run A

unfoldable pub and_then : {A B : Type 0} → Run A → (A → Run B) → Run B
and_then (refused o) f = refused o
and_then (done a) f = f a

-- a part of a calculation in the code, which answers whether it was refused, and what it leaves
abbrev pub run_of : {A : Type 0} → Result (Unit {0}) Refusal → A → Run A
run_of (Ok _) a = done a
run_of (Err o) a = refused o

-- what a call returns, and what then stands in the slices that it was lent to write to
pub record Returned (A : Type 0) : Type 0 where
  pub number : ℕ
  pub place : ℕ
  pub count : ℕ
  pub left : A

abbrev pub returned : {A : Type 0} → Outcome → (count : ℕ) → A → Returned A
returned o c a = record { number = (number_and_place o).number; place = (number_and_place o).place; count = c; left = a }

-- a call without a count that writes its result when all is done
abbrev pub written : {A : Type 0} → A → Returned A
written a = returned (Ok Done) 0 a

-- 'No refusal alters a lent slice', 'every other refusal has count 0'; a call that is done returns what its result says
unfoldable pub ended : {A B : Type 0} → (A → Returned B) → (lent : B) → Run A → Returned B
ended f lent (refused o) = returned (Err o) 0 lent
ended f lent (done a) = f a

-- the same from the code's answer, of a call without a count
abbrev pub answered : {A : Type 0} → Result (Unit {0}) Refusal → A → Returned A
answered (Ok _) a = written a
answered (Err o) a = returned (Err o) 0 a

-- and of one with a count, which the code answers
abbrev pub counted : {A : Type 0} → Result ℕ Refusal → A → Returned A
counted (Ok c) a = returned (Ok Done) c a
counted (Err o) a = returned (Err o) 0 a
