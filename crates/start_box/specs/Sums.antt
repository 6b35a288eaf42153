-- Document 02, A2; document 003: magnitudes, and the sums of the rows and of the columns of a matrix.
use Rattle.std.specs.Prelude.{Bool, true, ◌&&◌, ℕ, zero, suc, ◌+◌, ℤ, neg_ℤ}
use Rattle.std.specs.Int.Signed.{lt_z}
use Rattle.integer.specs.Extremes.{maximum}
use Rattle.integer.specs.Total.{total}
use Rattle.interval.specs.declared.Interval.{Interval}
use Rattle.interval.specs.Interval.{scale}

-- 'magnitudes': of an interval, the greater of those of its two ends (document 003: Betrag)
unfoldable pub absolute : ℤ → ℤ
absolute z = maximum z (neg_ℤ z)

unfoldable pub magnitude : Interval → ℤ
magnitude v = maximum (absolute v.lo) (absolute v.hi)

-- a number for each row and column of a matrix
abbrev pub Entries : Type 0
Entries = (i j : ℕ) → ℤ

-- 'row sum', 'column sum', of n rows and columns
unfoldable pub row_sum : Entries → (n i : ℕ) → ℤ
row_sum e n i = total (e i) n 0

unfoldable pub column_sum : Entries → (n j : ℕ) → ℤ
column_sum e n j = total (λ i. e i j) n 0

-- 'is below one': each of the sums i, i + 1, .., d of them
unfoldable pub all_below_one : (ℕ → ℤ) → (d i : ℕ) → Bool
all_below_one f zero i = true
all_below_one f (suc d) i = lt_z (f i) scale && all_below_one f d (i + 1)

-- 'the greatest': of a first number and f(i), f(i + 1), .., d of them
unfoldable pub greatest : (ℕ → ℤ) → (d i : ℕ) → ℤ → ℤ
greatest f zero i first = first
greatest f (suc d) i first = greatest f d (i + 1) (maximum first (f i))
