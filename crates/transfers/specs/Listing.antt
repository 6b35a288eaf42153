-- Document 02, A7: 'Transfers arrive as a lent list of records, each with receiving vat, giving vat, lower and upper share, at most
-- 1,024 of them.' The receiving vat is the row, the giving vat the column; both count from 1.
use Rattle.std.specs.Prelude.{Bool, ◌&&◌, ◌||◌, List, [], ◌∷◌, ℕ, zero, suc, ◌+◌, ◌-◌, ◌*◌, leb, ℤ, pos, nat_abs, length, get_or, replicate, Ok}
use Rattle.std.specs.Int.Signed.{le_z, lt_z}
use Rattle.outcome.specs.declared.Refusal.{Refusal}
use Rattle.outcome.specs.declared.Refusal.TheVariants as refusal
use Rattle.interval.specs.declared.Interval.{Interval}
use Rattle.interval.specs.Interval.{ends, acceptable}
use Rattle.inputs.specs.Tests.{Test, both, need, sized, slice, lengths, Part, all_proper}
use Rattle.inputs.specs.Place.{put, cell}
use Rattle.inputs.specs.System.{System, system}
use Rattle.transfers.specs.declared.Transfer.{Transfer}

-- what is lent to a call besides its box
pub record Listing : Type 0 where
  pub size : ℕ
  pub transfers : List Transfer
  pub right : List ℤ

abbrev pub listing : ℕ → List Transfer → List ℤ → Listing
listing n ts r = record { size = n; transfers = ts; right = r }

-- the record at k, from 0; past the end there are noughts
abbrev pub nth : List Transfer → ℕ → Transfer
nth ts k = get_or ts k (record { receiver = pos 0; giver = pos 0; lo = pos 0; hi = pos 0 })

abbrev pub share : Transfer → Interval
share t = ends t.lo t.hi

-- ---- the tests
-- 1 and 2: 'A longer list is 2, place 1'
unfoldable pub sizes : Listing → (boxLength : ℕ) → Test
sizes s l =
    both (sized s.size)
    (both (need (leb (length s.transfers) 1_024) (refusal.Length 1))
    (lengths (slice 2 (length s.right) (2 * s.size) ∷ slice 3 l (2 * s.size) ∷ [])))

-- a test p of k, k + 1, .., d of them; it fails with o at the first that does not meet it
unfoldable pub tried : (ℕ → Bool) → (ℕ → Refusal) → (d k : ℕ) → Test
tried p o zero k = Ok tt
tried p o (suc d) k = both (need (p k) (o k)) (tried p o d (k + 1))

-- 11: 'a vat number outside 1 to n'
unfoldable pub is_component : ℕ → ℤ → Bool
is_component n v = le_z (pos 1) v && le_z v (pos n)

unfoldable pub both_components : ℕ → Transfer → Bool
both_components n t = is_component n t.receiver && is_component n t.giver

abbrev pub known : (n : ℕ) → List Transfer → (d k : ℕ) → Test
known n ts = tried (λ k. both_components n (nth ts k)) refusal.OutOfMatrix

-- 12: 'a record not after its predecessor by receiving and then giving vat'
unfoldable pub follows : Transfer → Transfer → Bool
follows s t = lt_z s.receiver t.receiver || (le_z s.receiver t.receiver && lt_z s.giver t.giver)

abbrev pub ordered : List Transfer → (d k : ℕ) → Test
ordered ts = tried (λ k. follows (nth ts (k - 1)) (nth ts k)) refusal.OutOfOrder

-- '11 over all records first'
unfoldable pub entries : (n : ℕ) → List Transfer → Test
entries n ts = both (known n ts (length ts) 0) (ordered ts (length ts - 1) 1)

-- 3: 'a record's 3 has its place in the list'
abbrev pub shares : List Transfer → (d k : ℕ) → Test
shares ts = tried (λ k. acceptable (share (nth ts k))) refusal.Ends

-- 'and the right side counts on after the last record', and what comes after it
unfoldable pub intervals : Listing → List Part → Test
intervals s ps =
    both (shares s.transfers (length s.transfers) 0)
    (all_proper (length s.transfers) (record { numbers = s.right; count = s.size } ∷ ps))

-- ---- 'the square it stands for'. 'A pair that is not listed is nought'
unfoldable pub place_of : ℕ → Transfer → ℕ
place_of n t = cell n (nat_abs t.receiver - 1) (nat_abs t.giver - 1)

-- the matrix m with the records k, k + 1, .., d of them
unfoldable pub filled : (n : ℕ) → List Transfer → (d k : ℕ) → List ℤ → List ℤ
filled n ts zero k m = m
filled n ts (suc d) k m = filled n ts d (k + 1) (put m (place_of n (nth ts k)) (share (nth ts k)))

unfoldable pub square : ℕ → List Transfer → List ℤ
square n ts = filled n ts (length ts) 0 (replicate (2 * (n * n)) (pos 0))

abbrev pub squared : Listing → System
squared s = system s.size (square s.size s.transfers) s.right

-- ---- a record as four numbers, as callers in C lend it: receiving vat, giving vat, lower and upper share
unfoldable pub transfer_of : List ℤ → Transfer
transfer_of r = record { receiver = get_or r 0 (pos 0); giver = get_or r 1 (pos 0); lo = get_or r 2 (pos 0); hi = get_or r 3 (pos 0) }

abbrev pub numbers_of : Transfer → List ℤ
numbers_of t = t.receiver ∷ t.giver ∷ t.lo ∷ t.hi ∷ []

unfoldable pub transfers_of : List (List ℤ) → List Transfer
transfers_of [] = []
transfers_of (r ∷ rs) = transfer_of r ∷ transfers_of rs
