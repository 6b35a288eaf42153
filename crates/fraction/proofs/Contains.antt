-- Intervals one inside the other.
use lib.Signed.{≤ℤ_refl}
use Rattle.integer.proofs.Order.{trans}
use Rattle.integer.proofs.Extremes.{le_max_right, min_le_right}
use Rattle.interval.specs.Interval.{intersection}
use Rattle.interval.specs.declared.Interval.{Interval}
use Rattle.fraction.specs.Meaning.{Contains}

pub contains_refl : (v : Interval) → Contains v v
contains_refl v = record { low = ≤ℤ_refl v.lo; high = ≤ℤ_refl v.hi }

pub contains_trans : {u v w : Interval} → Contains u v → Contains v w → Contains u w
contains_trans h k = record { low = trans h.low k.low; high = trans k.high h.high }

-- an intersection is no wider than what it is taken of
pub intersection_narrows : (x y : Interval) → Contains y (intersection x y)
unfolding intersection
intersection_narrows x y = record { low = le_max_right x.lo y.lo; high = min_le_right x.hi y.hi }
