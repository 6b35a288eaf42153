-- The exact sum of a row's products, and what it is for a row sum to enclose it.
use Rattle.std.specs.Prelude.{List, ℕ, zero, suc, ◌+◌, ◌<◌, ℤ, pos}
use Rattle.std.specs.Int.Signed.{lt_z_yes}
use Rattle.fraction.specs.Fraction.{Fraction, Inside, millionths, sum, product_at}
use Rattle.inputs.specs.Place.{at}
use Rattle.rows.specs.Sum.{RowSum, once}

abbrev pub nought : Fraction
nought = record { num = pos 0; den = pos 1; above = lt_z_yes tt }

-- acc and the products of c and w from the j-th on, d of them
unfoldable pub exact_row : (c w : ℕ → Fraction) → (d j : ℕ) → Fraction → Fraction
exact_row c w zero j acc = acc
exact_row c w (suc d) j acc = exact_row c w d (j + 1) (sum acc (product_at millionths (c j) (w j)))

-- for every choice of exact fractions inside the intervals, the exact sum lies inside the row sum
pub record Encloses (f : RowSum) : Type 0 where
  pub holds :
      (m : List ℤ) (p : ℕ) (x : List ℤ) (q d : ℕ) (c w : ℕ → Fraction)
      → ((j : ℕ) → j < d → Inside (at m (p + j)) (c j))
      → ((j : ℕ) → j < d → Inside (at x (q + j)) (w j))
      → Inside (f m p x q d) (exact_row c w d 0 nought)

-- 'the row-sum facts once for any n': the row that is rounded once does
abbrev pub OnceEncloses : Type 0
OnceEncloses = Encloses once
