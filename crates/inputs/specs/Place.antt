-- Document 01, Bounds in units: 'each interval lower then upper'. An interval of a list of numbers, by its position from 0.
use Rattle.std.specs.Prelude.{List, [], ◌∷◌, ℕ, zero, suc, ◌+◌, ◌*◌, ℤ, pos, get_or, set}
use Rattle.interval.specs.declared.Interval.{Interval}
use Rattle.integer.specs.Total.{total}
use Rattle.interval.specs.Interval.{ends, width}

-- the interval at position p, which is nought past the end
unfoldable pub at : List ℤ → ℕ → Interval
at t p = ends (get_or t (2 * p) (pos 0)) (get_or t (2 * p + 1) (pos 0))

-- the list with v at position p
unfoldable pub put : List ℤ → ℕ → Interval → List ℤ
put t p v = set (set t (2 * p) v.lo) (2 * p + 1) v.hi

-- the numbers of the intervals f(p), f(p + 1), .., d of them
unfoldable pub numbers : (ℕ → Interval) → (d p : ℕ) → List ℤ
numbers f zero p = []
numbers f (suc d) p = (f p).lo ∷ (f p).hi ∷ numbers f d (p + 1)

-- 'row by row': the position of row i, column j of a matrix. Rows and columns count from 0 here, as the positions do; the places of
-- outcomes count from 1
abbrev pub cell : (n i j : ℕ) → ℕ
cell n i j = i * n + j

-- the sum of the widths of the components j, j + 1, .., d of them
unfoldable pub widths : List ℤ → (d j : ℕ) → ℤ
widths X d j = total (λ k. width (at X k)) d j
