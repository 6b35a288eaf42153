-- Document 01, Bounds in units: the interval, its constants, and the arithmetic on it with outward rounding.
use Rattle.std.specs.Prelude.{Bool, ◌&&◌, ℤ, pos, neg_ℤ, ◌+ℤ◌, ◌-ℤ◌, ◌*ℤ◌}
use Rattle.std.specs.Int.Signed.{le_z, lt_z}
use Rattle.integer.specs.Rounding.{floor_div, ceil_div}
use Rattle.integer.specs.Extremes.{minimum, maximum}
use Rattle.interval.specs.declared.Interval.{Interval}

-- 'A unit is one millionth': the units in one whole
unfoldable pub scale : ℤ
scale = pos 1_000_000

-- 'both from −2,000,000,000 to 2,000,000,000': the range
unfoldable pub lowest : ℤ
lowest = neg_ℤ (pos 2_000_000_000)

unfoldable pub highest : ℤ
highest = pos 2_000_000_000

-- an interval from its two ends; 'Nought, one (1,000,000 units) and the interval of a single number'
abbrev pub ends : ℤ → ℤ → Interval
ends l u = record { lo = l; hi = u }

abbrev pub point : ℤ → Interval
point z = ends z z

abbrev pub zero : Interval
zero = point (pos 0)

abbrev pub one : Interval
one = point scale

-- a number in the range, and both ends of an interval
unfoldable pub within : ℤ → Bool
within z = le_z lowest z && le_z z highest

unfoldable pub in_range : Interval → Bool
in_range v = within v.lo && within v.hi

-- 'An interval is a lower and an upper end, lower not above upper', both in the range
unfoldable pub acceptable : Interval → Bool
acceptable v = le_z v.lo v.hi && in_range v

-- 'A width is upper end less lower end'
abbrev pub width : Interval → ℤ
width v = v.hi -ℤ v.lo

-- 'contains 0, its ends included'
unfoldable pub contains_zero : Interval → Bool
contains_zero v = le_z v.lo (pos 0) && le_z (pos 0) v.hi

-- 'Sums and differences are exact'
unfoldable pub exact_sum : Interval → Interval → Interval
exact_sum x y = record { lo = x.lo +ℤ y.lo; hi = x.hi +ℤ y.hi }

unfoldable pub exact_difference : Interval → Interval → Interval
exact_difference x y = record { lo = x.lo -ℤ y.hi; hi = x.hi -ℤ y.lo }

abbrev pub least : ℤ → ℤ → ℤ → ℤ → ℤ
least a b c d = minimum (minimum a b) (minimum c d)

abbrev pub greatest : ℤ → ℤ → ℤ → ℤ → ℤ
greatest a b c d = maximum (maximum a b) (maximum c d)

-- 'the four end results' of a product: 'the lowest' and 'the highest'
abbrev pub least_product : Interval → Interval → ℤ
least_product x y = least (x.lo *ℤ y.lo) (x.lo *ℤ y.hi) (x.hi *ℤ y.lo) (x.hi *ℤ y.hi)

abbrev pub greatest_product : Interval → Interval → ℤ
greatest_product x y = greatest (x.lo *ℤ y.lo) (x.lo *ℤ y.hi) (x.hi *ℤ y.lo) (x.hi *ℤ y.hi)

-- every product of numbers of the two, unrounded: the product of two counts of units counts s-ths of a unit, with s units in one whole
unfoldable pub exact_product : Interval → Interval → Interval
exact_product x y = record { lo = least_product x y; hi = greatest_product x y }

-- ends that count s-ths of a unit, rounded outward to units
unfoldable pub rounded : ℤ → Interval → Interval
rounded s v = record { lo = floor_div v.lo s; hi = ceil_div v.hi s }

-- 'the lowest of the four end results rounded towards minus infinity, the highest towards plus infinity', with s units in one whole: a
-- product is divided by s; of a quotient the dividend is first multiplied by s
unfoldable pub product_at : ℤ → Interval → Interval → Interval
product_at s x y = rounded s (exact_product x y)

-- the four end results are fractions, so each is rounded and then the lowest is taken, which is the lowest rounded
unfoldable pub quotient_at : ℤ → Interval → Interval → Interval
quotient_at s x y =
    record {
      lo =
          least (floor_div (x.lo *ℤ s) y.lo) (floor_div (x.lo *ℤ s) y.hi)
          (floor_div (x.hi *ℤ s) y.lo) (floor_div (x.hi *ℤ s) y.hi);
      hi =
          greatest (ceil_div (x.lo *ℤ s) y.lo) (ceil_div (x.lo *ℤ s) y.hi)
          (ceil_div (x.hi *ℤ s) y.lo) (ceil_div (x.hi *ℤ s) y.hi);
    }

abbrev pub product : Interval → Interval → Interval
product = product_at scale

abbrev pub quotient : Interval → Interval → Interval
quotient = quotient_at scale

-- 'is intersected with X(i)'
unfoldable pub intersection : Interval → Interval → Interval
intersection x y = record { lo = maximum x.lo y.lo; hi = minimum x.hi y.hi }

-- an intersection that holds nothing
unfoldable pub is_empty : Interval → Bool
is_empty v = lt_z v.hi v.lo
