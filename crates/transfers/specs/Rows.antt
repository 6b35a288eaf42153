-- The rows of a list, and a row's sum over its records alone.
use Rattle.std.specs.Prelude.{◌≡◌, ◌≢◌, Option, Some, None, Result, Ok, Err, Bool, true, List, ℕ, zero, suc, ◌+◌, ◌-◌, ◌*◌, ◌≤◌, ◌<◌, ℤ, pos, neg_ℤ, nat_abs, length, get_or, ◌≤ℤ◌}
use Rattle.outcome.specs.declared.Refusal.{Refusal}
use Rattle.integer.specs.Extremes.{minimum, maximum}
use Rattle.interval.specs.declared.Interval.{Interval}
use Rattle.interval.specs.Interval as interval
use Rattle.inputs.specs.Place.{at}
use Rattle.rows.specs.Word.{NoneBelow}
use Rattle.sweep.specs.Code.{Ready}
use Rattle.transfers.specs.declared.Transfer.{Transfer}
use Rattle.transfers.specs.declared.internal.found.Row.{Row}
use Rattle.transfers.specs.declared.internal.found.Ends.{Ends}
use Rattle.transfers.specs.Listing.{Listing, nth, share, is_component, both_components, square}
use Rattle.transfers.specs.Call.{sweep_tests}
use Rattle.transfers.specs.Code.{all_good, judgement}

-- ---- the hull of shares: what holds them all
pub record Holds (h v : Interval) : Type 0 where
  pub low : h.lo ≤ℤ v.lo
  pub high : v.hi ≤ℤ h.hi

unfoldable pub hull : Interval → Interval → Interval
hull h v = interval.ends (minimum h.lo v.lo) (maximum h.hi v.hi)

pub record InRange (h : Interval) : Type 0 where
  pub low : interval.lowest ≤ℤ h.lo
  pub high : h.hi ≤ℤ interval.highest

-- at most 2^27 off 0: 32 products of such shares with components fit 64 bits
pub record Short (h : Interval) : Type 0 where
  pub low : neg_ℤ (pos 134_217_728) ≤ℤ h.lo
  pub high : h.hi ≤ℤ pos 134_217_728

-- ---- rows
-- v is a number above the first ones, so many
pub record Later (first : ℕ) (v : ℤ) : Type 0 where
  pub is : v ≡ pos (nat_abs v)
  pub past : first < nat_abs v
  pub few : nat_abs v ≤ 9_223_372_036_854_775_807

-- a record of row i, from 0, with its share in h
pub record InRow (n i : ℕ) (h : Interval) (t : Transfer) : Type 0 where
  pub components : both_components n t ≡ true
  pub row : t.receiver ≡ pos (i + 1)
  pub order : t.lo ≤ℤ t.hi
  pub held : Holds h (share t)

-- row i has the records from k on and before e, with their shares in h; if h is in the range, those from k on are good if those from e on are good for later rows
pub record RowOf (n : ℕ) (ts : List Transfer) (i : ℕ) (h : Interval) (k e : ℕ) : Type 0 where
  pub forward : k ≤ e
  pub within : e ≤ length ts
  pub few : e ≤ k + n
  pub each : (j : ℕ) → k ≤ j → j < e → InRow n i h (nth ts j)
  pub good : InRange h → all_good n ts (length ts - e) e ((i + 1) * n) ≡ true → all_good n ts (length ts - k) k (i * n) ≡ true

-- where the row ends, if its columns are in the square; and if the records from k on are good, then so are columns and shares, and the records from the end on
pub record RowEnd (n : ℕ) (ts : List Transfer) (i : ℕ) (h : Interval) (k : ℕ) (r : Row) : Type 0 where
  pub held : Holds r.hull h
  pub is : r.columns ≤ n → RowOf n ts i r.hull k r.end
  pub passes : InRange h → all_good n ts (length ts - k) k (i * n) ≡ true
      → (r.columns ≤ n) × InRange r.hull × (all_good n ts (length ts - r.end) r.end ((i + 1) * n) ≡ true)

-- the row; or none, as a record from k on is not good
abbrev pub RowFound : (n : ℕ) (ts : List Transfer) (i : ℕ) (h : Interval) (k : ℕ) → Option Row → Type 0
RowFound n ts i h k (Some r) = RowEnd n ts i h k r
RowFound n ts i h k None = InRange h → all_good n ts (length ts - k) k (i * n) ≢ true

abbrev pub end : List ℕ → ℕ → ℕ
end ends i = get_or ends i 0

pub record Rows (n : ℕ) (ts : List Transfer) (ends : List ℕ) (h : Interval) : Type 0 where
  pub first : end ends 0 ≡ 0
  pub last : end ends n ≡ length ts
  pub row : (i : ℕ) → i < n → RowOf n ts i h (end ends i) (end ends (i + 1))

-- found exactly if all records are good
abbrev pub AllRows : (n : ℕ) (ts : List Transfer) → Option Ends → Type 0
AllRows n ts (Some e) = Rows n ts e.at e.hull × InRange e.hull
AllRows n ts None = all_good n ts (length ts) 0 0 ≢ true

-- what the tests of the records said
abbrev pub Told : (n : ℕ) (ts : List Transfer) → Result Ends Refusal → Type 0
Told n ts (Ok e) = Rows n ts e.at e.hull × InRange e.hull
Told n ts (Err o) = judgement n ts ≡ Err o

-- what the tests of a sweep call said
abbrev pub Tested : (s : Listing) (allowed : ℕ) (X : List ℤ) → Result Ends Refusal → Type 0
Tested s k X (Ok e) = (sweep_tests s k X ≡ Ok tt) × Rows s.size s.transfers e.at e.hull × InRange e.hull
Tested s k X (Err o) = sweep_tests s k X ≡ Err o

-- the rows with a right side and a box, as the passes ask for them; if above is true, no share and no component is below 0
pub record Passable (n : ℕ) (ts : List Transfer) (h : Interval) (above : Bool) (r x : List ℤ) : Type 0 where
  pub ready : Ready n (square n ts) r x
  pub signs : above ≡ true → (pos 0 ≤ℤ h.lo) × NoneBelow x

-- ---- sums
-- the component of the record k's giver
abbrev pub component : List Transfer → List ℤ → (k : ℕ) → Interval
component ts x k = at x (nat_abs (nth ts k).giver - 1)

-- neither the share of the record k nor its component is below 0
pub record Above (ts : List Transfer) (x : List ℤ) (k : ℕ) : Type 0 where
  pub share_above : pos 0 ≤ℤ (share (nth ts k)).lo
  pub component_above : pos 0 ≤ℤ (component ts x k).lo

abbrev pub BothAbove : (ts : List Transfer) (x : List ℤ) (k : ℕ) → Type 0
BothAbove ts x k = Above ts x k × Above ts x (k + 1)

-- the record k can be multiplied with it; if above is true, neither is below 0
pub record Factors (n : ℕ) (ts : List Transfer) (x : List ℤ) (above : Bool) (k : ℕ) : Type 0 where
  pub inside : is_component n (nth ts k).giver ≡ true
  pub proper : interval.acceptable (share (nth ts k)) ≡ true
  pub over : above ≡ true → (pos 0 ≤ℤ (share (nth ts k)).lo) × (pos 0 ≤ℤ (component ts x k).lo)

abbrev pub Pair : (n : ℕ) (ts : List Transfer) (x : List ℤ) (above : Bool) (k : ℕ) → Type 0
Pair n ts x above k = Factors n ts x above k × Factors n ts x above (k + 1)

-- that product, unrounded; and with the next one
unfoldable pub term : List Transfer → List ℤ → (k : ℕ) → Interval
term ts x k = interval.exact_product (share (nth ts k)) (component ts x k)

unfoldable pub two_terms : List Transfer → List ℤ → (k : ℕ) → Interval
two_terms ts x k = interval.exact_sum (term ts x k) (term ts x (k + 1))

-- acc and the products of the records k, k + 1, .., d of them
unfoldable pub summed : List Transfer → List ℤ → (d k : ℕ) → Interval → Interval
summed ts x zero k acc = acc
summed ts x (suc d) k acc =
    summed ts x d (k + 1) (interval.exact_sum acc (term ts x k))

unfoldable pub row_sum : List Transfer → (ends : List ℕ) → List ℤ → (i : ℕ) → Interval
row_sum ts ends x i = summed ts x (end ends (i + 1) - end ends i) (end ends i) interval.zero
