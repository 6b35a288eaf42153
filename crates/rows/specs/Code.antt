-- What the functions beneath the row sum promise each other.
use Rattle.std.specs.Prelude.{◌≡◌, List, ℕ, ◌+◌, ℤ, pos, ◌≤ℤ◌}
use Rattle.interval.specs.declared.Interval.{Interval}
use Rattle.wide_sum.specs.declared.WideInterval.{WideInterval}
use Rattle.wide_sum.specs.Wide.{held_both}
use Rattle.wide_sum.specs.Code.{NearBoth}
use Rattle.rows.specs.Sum.{exactly}

-- r is acc and d products
pub record Summed (acc : WideInterval) (m : List ℤ) (p : ℕ) (x : List ℤ) (q d : ℕ) (r : WideInterval) : Type 0 where
  pub is : held_both r ≡ exactly m p x q d 0 (held_both acc)
  pub near : (k : ℕ) → NearBoth k acc → NearBoth (k + d) r

-- neither interval is below 0
abbrev pub Above : Interval → Interval → Type 0
Above u v = (pos 0 ≤ℤ u.lo) × (pos 0 ≤ℤ v.lo)
