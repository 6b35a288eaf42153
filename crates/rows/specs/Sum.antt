-- Document 01, Elimination and Sweeps: the sum of a row's products, as a numerator and a sweep take it.
use Rattle.std.specs.Prelude.{List, ℕ, zero, suc, ◌+◌, ℤ}
use Rattle.interval.specs.declared.Interval.{Interval}
use Rattle.interval.specs.Interval as interval
use Rattle.inputs.specs.Place.{at}

-- a way to sum the d products of the intervals of m from position p on with those of x from position q on
abbrev pub RowSum : Type 0
RowSum = (m : List ℤ) (p : ℕ) (x : List ℤ) (q d : ℕ) → Interval

-- ---- the former row sum, before A4: 'Products are rounded singly and added exactly'
-- acc and the products from the j-th on, d of them
unfoldable pub summed : (m : List ℤ) (p : ℕ) (x : List ℤ) (q : ℕ) → (d j : ℕ) → Interval → Interval
summed m p x q zero j acc = acc
summed m p x q (suc d) j acc = summed m p x q d (j + 1) (interval.exact_sum acc (interval.product (at m (p + j)) (at x (q + j))))

unfoldable pub singly : RowSum
singly m p x q d = summed m p x q d 0 interval.zero

-- ---- document 02, A4: 'the whole row is now summed exactly and rounded outward once'
-- acc and the products from the j-th on, d of them, all unrounded
unfoldable pub exactly : (m : List ℤ) (p : ℕ) (x : List ℤ) (q : ℕ) → (d j : ℕ) → Interval → Interval
exactly m p x q zero j acc = acc
exactly m p x q (suc d) j acc =
    exactly m p x q d (j + 1) (interval.exact_sum acc (interval.exact_product (at m (p + j)) (at x (q + j))))

unfoldable pub once : RowSum
once m p x q d = interval.rounded interval.scale (exactly m p x q d 0 interval.zero)
