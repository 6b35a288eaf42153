-- What the functions beneath the operations ask of what is lent and promise each other.
use Rattle.std.specs.Prelude.{◌≡◌, Bool, true, false, cond, ◌&&◌, List, ℕ, ◌+◌, ◌-◌, ◌*◌, ◌<◌, ℤ, ◌-ℤ◌, length, Option, Some, None, is_ok, Ok}
use Rattle.outcome.specs.Run.{Run, done, and_then}
use Rattle.interval.specs.declared.Interval.{Interval}
use Rattle.interval.specs.Interval as interval
use Rattle.interval.specs.Interval.{ends, scale, acceptable, exact_sum, exact_product, rounded, intersection}
use Rattle.inputs.specs.Place.{at}
use Rattle.inputs.specs.Tests.{Test}
use Rattle.inputs.specs.Code.{Sound}
use Rattle.wide_sum.specs.declared.WideInterval.{WideInterval}
use Rattle.wide_sum.specs.Wide.{held_both}
use Rattle.wide_sum.specs.Code.{NearBoth}
use Rattle.rows.specs.Sum.{exactly}
use Rattle.rows.specs.Code.{Summed}
use Rattle.half_rows.specs.declared.internal.way.Way.{Way}
use Rattle.half_rows.specs.declared.internal.way.Way.TheVariants.{Up, Down}
use Rattle.half_rows.specs.Rows.{first, beside, begin}
use Rattle.half_rows.specs.Operations.{pass_of, passed}

-- the way from n to 1
abbrev pub is_back : Way → Bool
is_back Up = false
is_back Down = true

-- a box of n components, which are intervals
pub record Boxed (n : ℕ) (X : List ℤ) : Type 0 where
  pub long : length X ≡ 2 * n
  pub sound : Sound X

-- ---- products of shares that are tested on the way
-- of the d shares of h from position p on, all are intervals; or one of them is none
abbrev pub AllShares : (h : List ℤ) (p d : ℕ) → Type 0
AllShares h p d = (j : ℕ) → j < d → acceptable (at h (p + j)) ≡ true

pub record NoShare (h : List ℤ) (p d : ℕ) : Type 0 where
  pub place : ℕ
  pub below : place < d
  pub none : acceptable (at h (p + place)) ≡ false

abbrev pub SumTested : (acc : WideInterval) (h : List ℤ) (p : ℕ) (x : List ℤ) (q d : ℕ) → Option WideInterval → Type 0
SumTested acc h p x q d None = NoShare h p d
SumTested acc h p x q d (Some s) = AllShares h p d × Summed acc h p x q d s

-- the same of a way that is tried first, and may say nothing
abbrev pub SumAbove : (acc : WideInterval) (h : List ℤ) (p : ℕ) (x : List ℤ) (q d : ℕ) → Option WideInterval → Type 0
SumAbove acc h p x q d None = Unit {0}
SumAbove acc h p x q d (Some s) = AllShares h p d × Summed acc h p x q d s

-- ---- one row, from its half row h: the side behind it, and the new component
unfoldable pub side_on : (back : Bool) → (n : ℕ) → (h X : List ℤ) → (i : ℕ) → Interval
side_on back n h X i = exactly h (first back i - begin back i) X (first back i) (beside back n i) 0 interval.zero

unfoldable pub joined_on : (back : Bool) → (n : ℕ) → (h r X : List ℤ) → (i : ℕ) → (kept : Interval) → Interval
joined_on back n h r X i k =
    intersection (exact_sum (at r i) (rounded scale (exact_sum (exactly h (i - begin back i) X i 1 0 (side_on back n h X i)) k))) (at X i)

-- the side behind it is summed: its shares are intervals
pub record SideSummed (back : Bool) (n : ℕ) (h X : List ℤ) (i : ℕ) (w : WideInterval) : Type 0 where
  pub shares : AllShares h (first back i - begin back i) (beside back n i)
  pub is : held_both w ≡ side_on back n h X i
  pub near : NearBoth 32 w

-- a row's answer, from the tests of what it reads, its new component and the sum that it works out
abbrev pub Stepped : (t : Test) (ready : Bool) (v sum : Interval) → Option (Interval × WideInterval) → Type 0
Stepped t b v u None = (is_ok t && b) ≡ false
Stepped t b v u (Some (w, s)) = (t ≡ Ok tt) × (b ≡ true) × (w ≡ v) × (held_both s ≡ u) × NearBoth 32 s

-- ---- the state after a half pass
unfoldable pub pass_end : (back : Bool) → (t : List ℤ) (n : ℕ) → Run (List ℤ)
pass_end back t n = and_then (pass_of back t n) (λ w. done (passed back t w))

-- the component of turn k
unfoldable pub turn : (back : Bool) → (n k : ℕ) → ℕ
turn back n k = cond back (n - (k + 1)) k

-- what a product with a changes by, end by end
unfoldable pub change : (a old new : Interval) → Interval
change a u v = ends ((exact_product a v).lo -ℤ (exact_product a u).lo) ((exact_product a v).hi -ℤ (exact_product a u).hi)
