-- What the four steps on intervals mean for exact fractions, with any number of units in one whole. `Meaning`, at the end, is the
-- whole claim.
-- Document 01 speaks of real results; the exact fractions among them, which come as near to each as one likes, stand for them.
use Rattle.std.specs.Prelude.{◌≡◌, false, ◌≤ℤ◌}
use Rattle.interval.specs.Interval
use Rattle.interval.specs.declared.Interval.{Interval}
use Rattle.fraction.specs.Fraction.{Fraction, Inside, Scale, Operation, Sum, Difference, ProductAt, QuotientAt}

-- c is a result of R for some fraction inside x and some fraction inside y
pub record Result (R : Operation) (x y : Interval) (c : Fraction) : Type 0 where
  pub left : Fraction
  pub right : Fraction
  pub left_in : Inside x left
  pub right_in : Inside y right
  pub exact : R left right c

-- 'holds every real result': each fraction of a set P lies inside v
abbrev pub Holds : (Fraction → Type 0) → Interval → Type 0
Holds P v = (c : Fraction) → P c → Inside v c

-- no end of v lies outside w
pub record Contains (w v : Interval) : Type 0 where
  pub low : w.lo ≤ℤ v.lo
  pub high : v.hi ≤ℤ w.hi

-- 'the narrowest interval with ends in units': every interval that holds the set contains v
abbrev pub Narrowest : (Fraction → Type 0) → Interval → Type 0
Narrowest P v = (w : Interval) → Holds P w → Contains w v

-- v is the interval hull (document 000, definition 5.1), with ends in units, of the results of R on x and y. Where x or y has its ends
-- out of sequence nothing lies inside and every interval holds all results, so there is no narrowest: the second part asks for
-- ends in sequence
pub record Hull (R : Operation) (x y v : Interval) : Type 0 where
  pub holds : Holds (Result R x y) v
  pub narrowest : x.lo ≤ℤ x.hi → y.lo ≤ℤ y.hi → Narrowest (Result R x y) v

-- 'A product or quotient is the narrowest interval with ends in units that holds every real result', and so are the exact sum and
-- difference. 'This holds for every sign. A divisor that contains 0, its ends included, is refused.'
pub record MeaningAt (s : Scale) : Type 0 where
  pub sum : (x y : Interval) → Hull Sum x y (Interval.exact_sum x y)
  pub difference : (x y : Interval) → Hull Difference x y (Interval.exact_difference x y)
  pub product : (x y : Interval) → Hull (ProductAt s) x y (Interval.product_at s.units x y)
  pub quotient : (x y : Interval) → Interval.contains_zero y ≡ false → Hull (QuotientAt s) x y (Interval.quotient_at s.units x y)

-- 'The rounding facts are shown once for any scale'
abbrev pub Meaning : Type 0
Meaning = (s : Scale) → MeaningAt s
