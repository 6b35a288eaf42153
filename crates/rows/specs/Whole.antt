-- Document 02, A4: 'the whole row is now summed exactly and rounded outward once'. b(i) and f(i) count whole units: to add them to the
-- rounded sum, as a sweep and a numerator do, is to round the whole row once.
use Rattle.std.specs.Prelude.{◌≡◌, List, ℕ, ℤ, ◌*ℤ◌}
use Rattle.interval.specs.declared.Interval.{Interval}
use Rattle.interval.specs.Interval.{scale, zero, exact_sum, exact_difference, rounded}
use Rattle.rows.specs.Sum.{exactly, once}

-- units, counted as an unrounded product is
unfoldable pub in_parts : Interval → Interval
in_parts u = record { lo = u.lo *ℤ scale; hi = u.hi *ℤ scale }

pub record WholeRowOnce : Type 0 where
  -- 'the sum of b(i) and all B(i,j)·X(j)'
  pub sum :
      (u : Interval) (m : List ℤ) (p : ℕ) (x : List ℤ) (q d : ℕ)
      → exact_sum u (once m p x q d) ≡ rounded scale (exactly m p x q d 0 (in_parts u))
  -- 'f(i) minus the sum of a(i,j)·x(j)'
  pub difference :
      (u : Interval) (m : List ℤ) (p : ℕ) (x : List ℤ) (q d : ℕ)
      → exact_difference u (once m p x q d) ≡ rounded scale (exact_difference (in_parts u) (exactly m p x q d 0 zero))
