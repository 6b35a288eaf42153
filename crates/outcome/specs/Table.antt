-- Document 01, Outcomes: the table, row by row; then the rows that document 02 adds, in A2, A6 and A7.
use Rattle.std.specs.Prelude.{ℕ, Result, Ok, Err}
use Rattle.outcome.specs.declared.Ending.{Ending}
use Rattle.outcome.specs.declared.Ending.TheVariants.{Done, Spent}
use Rattle.outcome.specs.declared.Refusal.{Refusal}
use Rattle.outcome.specs.declared.Refusal.TheVariants.{Size, Length, Allowed, Ends}
use Rattle.outcome.specs.declared.Refusal.TheVariants.{ContainsZero, OutOfRange, Empty, Text, Sums, NotDue, NoComponent, OutOfMatrix, OutOfOrder}

-- a call ends as its ending says, or is refused
abbrev pub Outcome : Type 0
Outcome = Result Ending Refusal

-- what is returned, and the place returned
pub record Row : Type 0 where
  pub number : ℕ
  pub place : ℕ

abbrev row : ℕ → ℕ → Row
row o p = record { number = o; place = p }

abbrev pub number_and_place : Outcome → Row
number_and_place (Ok Done) = row 0 0
number_and_place (Ok Spent) = row 9 0
number_and_place (Err Size) = row 1 0
number_and_place (Err (Length slice)) = row 2 slice
number_and_place (Err Allowed) = row 4 0
number_and_place (Err (Ends position)) = row 3 position
number_and_place (Err (ContainsZero pivot)) = row 5 pivot
number_and_place (Err (OutOfRange i)) = row 6 i
number_and_place (Err (Empty i)) = row 7 i
number_and_place (Err (Text line)) = row 8 line
number_and_place (Err Sums) = row 10 0
number_and_place (Err NotDue) = row 19 0
number_and_place (Err NoComponent) = row 20 0
number_and_place (Err (OutOfMatrix r)) = row 11 r
number_and_place (Err (OutOfOrder r)) = row 12 r
