-- Document 02, A2: the reach, by rows or else by columns; 10 where neither sum test holds.
use Rattle.std.specs.Prelude.{cond, ℕ, zero, suc, ◌+◌, ℤ, pos, ◌-ℤ◌, ◌*ℤ◌}
use Rattle.outcome.specs.declared.Refusal.TheVariants as refusal
use Rattle.outcome.specs.Run.{Run, refused, done, and_then}
use Rattle.integer.specs.Rounding.{ceil_div}
use Rattle.integer.specs.Extremes.{maximum}
use Rattle.integer.specs.Total.{total}
use Rattle.interval.specs.Interval.{scale, within}
use Rattle.inputs.specs.Place.{at, cell}
use Rattle.inputs.specs.System.{System}
use Rattle.start_box.specs.Sums.{magnitude, Entries, row_sum, column_sum, all_below_one, greatest}

-- 'With magnitudes |B| and |b|'
abbrev pub coefficients : System → Entries
coefficients s i j = magnitude (at s.matrix (cell s.size i j))

abbrev pub constants : System → (j : ℕ) → ℤ
constants s j = magnitude (at s.right j)

-- 'that row of |B|·|b|': 'each product .. rounded up', added exactly
unfoldable pub dividend : System → (i : ℕ) → ℤ
dividend s i = total (λ j. ceil_div (coefficients s i j *ℤ constants s j) scale) s.size 0

-- 'divided by one minus' a sum, rounded up
unfoldable pub quotient : (p sum : ℤ) → ℤ
quotient p sum = ceil_div (p *ℤ scale) (scale -ℤ sum)

-- 'A dividend, quotient or end out of the range is 6, place 0'
unfoldable pub ranged : ℤ → Run ℤ
ranged z = cond (within z) (done z) (refused (refusal.OutOfRange 0))

unfoldable pub divided : (p sum : ℤ) → Run ℤ
divided p sum = and_then (ranged p) (λ p. ranged (quotient p sum))

-- 'the reach is the greatest over rows of that row of |B|·|b| divided by one minus its row sum': a first number, and the rows i, i + 1, ..,
-- d of them
unfoldable pub over_rows : System → (d i : ℕ) → ℤ → Run ℤ
over_rows s zero i first = done first
over_rows s (suc d) i first =
    and_then (divided (dividend s i) (row_sum (coefficients s) s.size i)) (λ q. over_rows s d (i + 1) (maximum first q))

-- 'the sum of all |B|·|b| divided by one minus the greatest column sum'
unfoldable pub over_columns : System → Run ℤ
over_columns s =
    divided (total (dividend s) s.size 0) (greatest (column_sum (coefficients s) s.size) s.size 0 (pos 0))

-- 'if every row sum of |B| is below one', 'Otherwise, if every column sum is below one'; 10 if 'neither sum test holds'
unfoldable pub reach : System → Run ℤ
reach s =
    cond (all_below_one (row_sum (coefficients s) s.size) s.size 0) (over_rows s s.size 0 (pos 0))
    (cond (all_below_one (column_sum (coefficients s) s.size) s.size 0) (over_columns s) (refused refusal.Sums))
