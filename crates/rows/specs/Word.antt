-- What functions that sum products in one word promise each other; no public promise rests on these.
use Rattle.std.specs.Prelude.{◌≡◌, true, List, ℕ, ◌+◌, ◌*◌, ℤ, pos, ◌≤ℤ◌}
use Rattle.interval.specs.declared.Interval.{Interval}
use Rattle.interval.specs.Interval.{acceptable, exact_sum, exact_product}
use Rattle.inputs.specs.Place.{at}

-- a share that is an interval, not below 0 and at most 2^24
pub record Modest (a : Interval) : Type 0 where
  pub share : acceptable a ≡ true
  pub above : pos 0 ≤ℤ a.lo
  pub few : a.hi ≤ℤ pos 16_777_216

-- the sum of at most k products of such with components: each is at most 2^24 · 2,000,000,000
pub record SumModest (k : ℕ) (v : Interval) : Type 0 where
  pub lo_above : pos 0 ≤ℤ v.lo
  pub lo_few : v.lo ≤ℤ pos (k * 33_554_432_000_000_000)
  pub hi_above : pos 0 ≤ℤ v.hi
  pub hi_few : v.hi ≤ℤ pos (k * 33_554_432_000_000_000)

pub record NextAbove (v a b r : Interval) : Type 0 where
  pub is : r ≡ exact_sum v (exact_product a b)
  pub modest : (k : ℕ) → SumModest k v → SumModest (k + 1) r

-- no component is below 0
pub record NoneBelow (x : List ℤ) : Type 0 where
  pub each : (j : ℕ) → pos 0 ≤ℤ (at x j).lo
