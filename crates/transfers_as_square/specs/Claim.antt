-- Document 02, A7: what a list of transfers stands for, 'A pair that is not listed is nought', and 'the same outcome as from the square it
-- stands for'.
use Rattle.std.specs.Prelude.{◌≡◌, ◌≢◌, List, ℕ, ◌+◌, ◌<◌, ◌≤◌, ℤ, pos, length, Ok}
use Rattle.outcome.specs.Run.{Returned}
use Rattle.interval.specs.Interval.{zero}
use Rattle.inputs.specs.Place.{at, cell}
use Rattle.elimination.specs.Call.{over_B}
use Rattle.sweep.specs.Calls.{Call, call, changes_by, any_empty_by}
use Rattle.accuracy.specs.Claim.{Accepted, Start, Accuracy}
use Rattle.transfers.specs.declared.Transfer.{Transfer}
use Rattle.transfers.specs.Listing.{Listing, nth, share, entries, square, squared}
use Rattle.transfers.specs.Call.{tests, sweep_tests, over_list, allowed_of, sweep_list, call_list}

-- ---- the square
-- the record t is of the pair in row i and column j, from 0
abbrev pub Of : Transfer → (i j : ℕ) → Type 0
Of t i j = (t.receiver ≡ pos (i + 1)) × (t.giver ≡ pos (j + 1))

-- each listed pair has its interval in the square, and every other pair nought
pub record Stands (n : ℕ) (ts : List Transfer) : Type 0 where
  pub listed : (i j k : ℕ) → k < length ts → Of (nth ts k) i j → at (square n ts) (cell n i j) ≡ share (nth ts k)
  pub unlisted : (i j : ℕ) → i < n → j < n → ((k : ℕ) → k < length ts → Of (nth ts k) i j → ⊥) → at (square n ts) (cell n i j) ≡ zero

-- for every list that passes 11 and 12
abbrev pub SquareStands : Type 0
SquareStands = (n : ℕ) (ts : List Transfer) → entries n ts ≡ Ok tt → Stands n ts

-- ---- the outcomes
-- where the list's own tests pass, number, place, count and box are those of the square's call
pub record Same (s : Listing) : Type 0 where
  pub elimination : (X : List ℤ) → tests s (length X) ≡ Ok tt → over_list s X ≡ over_B (squared s) X
  pub sweeps : (c : Call) (X : List ℤ) → sweep_tests s (allowed_of c) X ≡ Ok tt → call_list s c X ≡ call (squared s) c X

abbrev pub SameAsSquare : Type 0
SameAsSquare = (s : Listing) → Same s

-- the numbers agree, and the places 'a record's 3 has its place in the list'
pub record Agree (list square : Returned (List ℤ)) : Type 0 where
  pub number : list.number ≡ square.number
  pub place : list.number ≢ 3 → list.place ≡ square.place
  pub count : list.count ≡ square.count
  pub left : list.left ≡ square.left

pub record AllAgree (s : Listing) : Type 0 where
  pub elimination : (X : List ℤ) → Agree (over_list s X) (over_B (squared s) X)
  pub sweeps : (c : Call) (X : List ℤ) → Agree (call_list s c X) (call (squared s) c X)

-- for every list that is not too long and passes 11 and 12
abbrev pub NumbersAgree : Type 0
NumbersAgree = (s : Listing) → length s.transfers ≤ 1_024 → entries s.size s.transfers ≡ Ok tt → AllAgree s

-- ---- the accuracy rule
-- an elimination from the list that accepted is one from the square, so that its box is a start of the rule; and for any start and any list
-- of sweep calls from the list, the rule holds of what they change
pub record Covered (s : Listing) : Type 0 where
  pub accepted : (box X : List ℤ) → Accepted (over_list s) box X → Accepted (over_B (squared s)) box X
  pub swept : (X : List ℤ) (start : Start (squared s) X) (calls : List Call)
      → Accuracy (squared s) X start (changes_by (sweep_list s) calls X) (any_empty_by (sweep_list s) calls X)

abbrev pub ListCovered : Type 0
ListCovered = (s : Listing) → Covered s
