-- Document 01, Bounds in units: exact fractions, when one lies inside an interval, when two are the same, and their arithmetic.
-- A fraction is a count of units here, as the ends of an interval are.
use Rattle.std.specs.Prelude.{◌≡◌, ℤ, pos, ◌+ℤ◌, ◌-ℤ◌, ◌*ℤ◌, ◌≤ℤ◌, ◌<ℤ◌}
use Rattle.integer.proofs.Order.{both_pos}
use Rattle.interval.specs.Interval.{scale}
use Rattle.interval.proofs.Range.{scale_above}
use Rattle.interval.specs.declared.Interval.{Interval}

-- 'a whole number p over a whole number q above 0, both of any size'
pub record Fraction : Type 0 where
  pub num : ℤ
  pub den : ℤ
  pub above : pos 0 <ℤ den

-- 'Counted in units, it lies inside an interval if lower·q ≤ p ≤ upper·q'
pub record Inside (v : Interval) (a : Fraction) : Type 0 where
  pub low : (v.lo *ℤ a.den) ≤ℤ a.num
  pub high : a.num ≤ℤ (v.hi *ℤ a.den)

-- 'an equation between such fractions .. holds if it holds in whole numbers once multiplied out'
pub record Same (a b : Fraction) : Type 0 where
  pub holds : a.num *ℤ b.den ≡ b.num *ℤ a.den

-- how many units there are in one whole
pub record Scale : Type 0 where
  pub units : ℤ
  pub above : pos 0 <ℤ units

-- 'A unit is one millionth'
abbrev pub millionths : Scale
millionths = record { units = scale; above = scale_above }

-- p/q + r/t is (p·t + r·q) / (q·t), and so for the difference. The field `above` of each shows only that the denominator is above 0
unfoldable pub sum : Fraction → Fraction → Fraction
sum a b =
    record {
      num = a.num *ℤ b.den +ℤ b.num *ℤ a.den;
      den = a.den *ℤ b.den;
      above = both_pos a.den b.den a.above b.above;
    }

unfoldable pub difference : Fraction → Fraction → Fraction
difference a b =
    record {
      num = a.num *ℤ b.den -ℤ b.num *ℤ a.den;
      den = a.den *ℤ b.den;
      above = both_pos a.den b.den a.above b.above;
    }

-- 'each taken as so many millionths': with s units in one whole, p/q units times r/t units is (p·r) / (q·t·s) units
unfoldable pub product_at : Scale → Fraction → Fraction → Fraction
product_at s a b =
    record {
      num = a.num *ℤ b.num;
      den = a.den *ℤ b.den *ℤ s.units;
      above = both_pos (a.den *ℤ b.den) s.units (both_pos a.den b.den a.above b.above) s.above;
    }

-- what an operation gives: `R a b c` says that c is an exact result of R for a and b
abbrev pub Operation : Type 1
Operation = Fraction → Fraction → Fraction → Type 0

abbrev pub Sum : Operation
Sum a b c = Same c (sum a b)

abbrev pub Difference : Operation
Difference a b c = Same c (difference a b)

abbrev pub ProductAt : Scale → Operation
ProductAt s a b c = Same c (product_at s a b)

-- c is a quotient of a by b if c times b is a. It is said so because b may be 0, and then no fraction is a by b alone
abbrev pub QuotientAt : Scale → Operation
QuotientAt s a b c = Same (product_at s c b) a
