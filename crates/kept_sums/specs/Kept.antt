-- Document 02, A6: 'Keep for each vat the unrounded sums'. Such sums in a list of numbers, four numbers for each.
use Rattle.std.specs.Prelude.{Bool, ◌&&◌, List, ℕ, ◌+◌, ◌*◌, ◌^◌, ℤ, pos, neg_ℤ, ◌+ℤ◌, ◌-ℤ◌, ◌*ℤ◌, get_or, set}
use Rattle.std.specs.Int.Signed.{le_z}
use Rattle.integer.specs.Rounding.{floor_div}
use Rattle.interval.specs.declared.Interval.{Interval}
use Rattle.interval.specs.Interval.{ends}

-- an end is two numbers, high · 2^64 + (low + 2^63): low is kept less 2^63, so that it fits a signed number
abbrev pub base : ℤ
base = pos (2 ^ 64)

abbrev pub shift : ℤ
shift = pos (2 ^ 63)

unfoldable pub end_at : List ℤ → (p : ℕ) → ℤ
end_at K p = get_or K p (pos 0) *ℤ base +ℤ (get_or K (p + 1) (pos 0) +ℤ shift)

unfoldable pub put_end : List ℤ → (p : ℕ) → ℤ → List ℤ
put_end K p z = set (set K p (floor_div z base)) (p + 1) (z -ℤ floor_div z base *ℤ base -ℤ shift)

-- the sum at position i, and the list with v there
unfoldable pub sum_at : List ℤ → (i : ℕ) → Interval
sum_at K i = ends (end_at K (4 * i)) (end_at K (4 * i + 2))

unfoldable pub put_sum : List ℤ → (i : ℕ) → Interval → List ℤ
put_sum K i v = put_end (put_end K (4 * i) v.lo) (4 * i + 2) v.hi

-- two numbers that can be an end: 31 products, each at most 4 · 10^18, come to less than 8 · 2^64
unfoldable pub end_ready : List ℤ → (p : ℕ) → Bool
end_ready K p = le_z (neg_ℤ (pos 8)) (get_or K p (pos 0)) && le_z (get_or K p (pos 0)) (pos 8)

unfoldable pub sum_ready : List ℤ → (i : ℕ) → Bool
sum_ready K i = end_ready K (4 * i) && end_ready K (4 * i + 2)
