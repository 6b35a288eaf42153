-- Document 01, Elimination; document 000, section 3: the forward part.
use Rattle.std.specs.Prelude.{List, ℕ, zero, suc, ◌+◌, ◌-◌, ℤ, pos, set}
use Rattle.interval.specs.declared.Interval.{Interval}
use Rattle.interval.specs.Interval.{exact_difference, product, quotient}
use Rattle.inputs.specs.Place.{at, put, cell}
use Rattle.outcome.specs.Run.{Run, done, and_then}
use Rattle.forward.specs.Run.{in_range_then, rhs}
use Rattle.forward.specs.Pivot.{Pivoting, swapped}

-- the numbers, and of each step the row that it took, as a place from 0
pub record Table : Type 0 where
  pub numbers : List ℤ
  pub taken : List ℤ

abbrev pub table : (numbers taken : List ℤ) → Table
table t r = record { numbers = t; taken = r }

-- step k takes its row: 'swap it with row k'
unfoldable pub taking : Pivoting → (n k : ℕ) → Table → Run Table
taking p n k s = and_then (p n k s.numbers) (λ i. done (table (swapped n k i s.numbers) (set s.taken k (pos i))))

-- 'a(i,j) − m·a(k,j)', of the intervals at p and at q
abbrev pub reduced : List ℤ → (p : ℕ) → Interval → (q : ℕ) → Interval
reduced t p m q = exact_difference (at t p) (product m (at t q))

-- 'for j from k+1 to n, a(i,j) becomes a(i,j) − m·a(k,j)': the columns j, j + 1, .., d of them
unfoldable pub columns : (n k i : ℕ) → Interval → (d j : ℕ) → List ℤ → Run (List ℤ)
columns n k i m zero j t = done t
columns n k i m (suc d) j t =
    in_range_then (i + 1) (reduced t (cell n i j) m (cell n k j)) (λ v. columns n k i m d (j + 1) (put t (cell n i j) v))

-- 'then f(i) becomes f(i) − m·f(k)'
unfoldable pub right_side : (n k i : ℕ) → Interval → List ℤ → Run (List ℤ)
right_side n k i m t = in_range_then (i + 1) (reduced t (rhs n i) m (rhs n k)) (λ v. done (put t (rhs n i) v))

-- 'for i from k+1 to n: factor m = a(i,k) / a(k,k)': the rows i, i + 1, .., d of them, below the pivot, which no row changes. The factor is
-- kept in the place of a(i,k), which nothing reads again
unfoldable pub rows : (n k : ℕ) (pivot : Interval) → (d i : ℕ) → List ℤ → Run (List ℤ)
rows n k pivot zero i t = done t
rows n k pivot (suc d) i t =
    in_range_then (i + 1) (quotient (at t (cell n i k)) pivot)
    (λ m.
    and_then (columns n k i m (n - (k + 1)) (k + 1) (put t (cell n i k) m))
    (λ t₁. and_then (right_side n k i m t₁) (λ t₂. rows n k pivot d (i + 1) t₂)))

-- 'For k from 1 to n−1 …. Then pivot n is tested': the pivots k, k + 1, .., d of them; the last has no rows below it
unfoldable pub pivots : Pivoting → (n : ℕ) → (d k : ℕ) → Table → Run Table
pivots p n zero k s = done s
pivots p n (suc d) k s =
    and_then (taking p n k s)
    (λ s₁.
    and_then (rows n k (at s₁.numbers (cell n k k)) (n - (k + 1)) (k + 1) s₁.numbers)
    (λ t. pivots p n d (k + 1) (table t s₁.taken)))

unfoldable pub forward : Pivoting → (n : ℕ) → Table → Run Table
forward p n s = pivots p n n 0 s
