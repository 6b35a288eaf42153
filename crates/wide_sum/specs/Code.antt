-- What the functions of this crate ask of a wide number and promise each other.
use Rattle.std.specs.Prelude.{◌≡◌, ℕ, ◌+◌, ℤ, pos, ◌+ℤ◌, ◌*ℤ◌, neg_ℤ, ◌≤ℤ◌}
use Rattle.interval.specs.declared.Interval.{Interval}
use Rattle.interval.specs.Interval.{scale, exact_sum}
use Rattle.wide_sum.specs.declared.Wide.{Wide}
use Rattle.wide_sum.specs.declared.WideInterval.{WideInterval}
use Rattle.wide_sum.specs.declared.internal.rounding.Parts.{Parts}
use Rattle.wide_sum.specs.Wide.{held, held_both}

-- the high word is no further from 0 than k: each number that is added moves it by one at most
pub record Near (k : ℕ) (w : Wide) : Type 0 where
  pub low : neg_ℤ (pos k) ≤ℤ w.high
  pub high : w.high ≤ℤ pos k

pub record NearBoth (k : ℕ) (v : WideInterval) : Type 0 where
  pub lo_near : Near k v.lo
  pub hi_near : Near k v.hi

-- r is w and p more, with a carry or none
pub record Raised (w : Wide) (p : ℕ) (r : Wide) : Type 0 where
  pub is : held r ≡ held w +ℤ pos p
  pub least : w.high ≤ℤ r.high
  pub most : r.high ≤ℤ (w.high +ℤ pos 1)

-- r is w and p
pub record Added (w : Wide) (p : ℤ) (r : Wide) : Type 0 where
  pub is : held r ≡ held w +ℤ p
  pub near : (k : ℕ) → Near k w → Near (k + 1) r

pub record AddedBoth (v : WideInterval) (p : Interval) (r : WideInterval) : Type 0 where
  pub is : held_both r ≡ exact_sum (held_both v) p
  pub near : (k : ℕ) → NearBoth k v → NearBoth (k + 1) r

-- what is rounded is far from the ends of 64 bits, so that units can be added
pub record Handy (z : ℤ) : Type 0 where
  pub low : neg_ℤ (pos 30_000_000_000_000_000) ≤ℤ z
  pub high : z ≤ℤ pos 30_000_000_000_000_000

-- r is v and w, both wide, and near enough to be rounded
pub record Joined (v w r : Wide) : Type 0 where
  pub is : held r ≡ held v +ℤ held w
  pub near : Near 1_000 r

pub record JoinedBoth (v w r : WideInterval) : Type 0 where
  pub is : held_both r ≡ exact_sum (held_both v) (held_both w)
  pub near : NearBoth 1_000 r

-- w in whole scales and a part
pub record Parted (w : Wide) (r : Parts) : Type 0 where
  pub is : r.whole *ℤ scale +ℤ r.part ≡ held w
  pub whole_small : (neg_ℤ (pos 20_020_000_000_000_000) ≤ℤ r.whole) × (r.whole ≤ℤ pos 20_020_000_000_000_000)
  pub part_small : (neg_ℤ (pos 2_002_000_000) ≤ℤ r.part) × (r.part ≤ℤ pos 2_002_000_000)
