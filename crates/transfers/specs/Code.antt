-- What the functions beneath the calls promise each other.
use Rattle.std.specs.Prelude.{◌≡◌, Option, Some, None, Bool, true, false, ◌&&◌, List, [], ◌∷◌, ℕ, zero, suc, ◌+◌, leb, ℤ, length, Ok}
use Rattle.interval.specs.Interval.{acceptable}
use Rattle.inputs.specs.Tests.{Test, both}
use Rattle.sweep.specs.declared.internal.pass.Way.{Way}
use Rattle.sweep.specs.declared.internal.pass.Way.TheVariants.{There, ThereAndBack}
use Rattle.sweep.specs.Calls.{Call, sweep_call, symmetric_call}
use Rattle.transfers.specs.declared.Transfer.{Transfer}
use Rattle.transfers.specs.Listing.{nth, share, both_components, entries, shares, place_of, filled, numbers_of}

-- ---- records as four numbers each
unfoldable pub records_of : List Transfer → List (List ℤ)
records_of [] = []
records_of (t ∷ ts) = numbers_of t ∷ records_of ts

-- ---- the records k, k + 1, .., d of them, in one go: each meets all its tests, and its position is next or after it
unfoldable pub all_good : (n : ℕ) → List Transfer → (d k next : ℕ) → Bool
all_good n ts zero k next = true
all_good n ts (suc d) k next =
    both_components n (nth ts k) && (leb next (place_of n (nth ts k)) && (acceptable (share (nth ts k)) && all_good n ts d (k + 1) (place_of n (nth ts k) + 1)))

-- the records in the matrix; or none, as one of them is not good
abbrev pub Filled : (n : ℕ) (ts : List Transfer) (before : List ℤ) → Option (Unit {0}) → (after : List ℤ) → Type 0
Filled n ts before (Some _) after = (all_good n ts (length ts) 0 0 ≡ true) × (after ≡ filled n ts (length ts) 0 before)
Filled n ts before None after = all_good n ts (length ts) 0 0 ≡ false

-- all tests of the records
unfoldable pub judgement : (n : ℕ) → List Transfer → Test
judgement n ts = both (entries n ts) (shares ts (length ts) 0)

-- what they say; and the records in the matrix, if they pass
pub record Entered (n : ℕ) (ts : List Transfer) (before : List ℤ) (r : Test) (after : List ℤ) : Type 0 where
  pub said : r ≡ judgement n ts
  pub matrix : r ≡ Ok tt → after ≡ filled n ts (length ts) 0 before

-- the sweep call whose passes go this way
abbrev pub of_way : Way → (allowed : ℕ) → Call
of_way There k = sweep_call k
of_way ThereAndBack k = symmetric_call k
