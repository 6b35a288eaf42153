-- Document 02, A1: 'At step k, pivot n included, take the lowest-numbered row from k on whose entry in column k does not contain 0, and
-- swap it with row k.'
use Rattle.std.specs.Prelude.{cond, List, ℕ, zero, suc, ◌+◌, ◌-◌, ℤ}
use Rattle.outcome.specs.declared.Refusal.TheVariants as refusal
use Rattle.outcome.specs.Run.{Run, refused, done}
use Rattle.interval.specs.Interval.{contains_zero}
use Rattle.inputs.specs.Place.{at, put, cell}
use Rattle.forward.specs.Run.{rhs}

-- which row step k takes
abbrev pub Pivoting : Type 0
Pivoting = (n k : ℕ) → List ℤ → Run ℕ

-- 'Refusal 5 is now given exactly if no such row exists': of the rows i, i + 1, .., d of them
unfoldable pub lowest_from : (n k : ℕ) → (d i : ℕ) → List ℤ → Run ℕ
lowest_from n k zero i t = refused (refusal.ContainsZero (k + 1))
lowest_from n k (suc d) i t = cond (contains_zero (at t (cell n i k))) (lowest_from n k d (i + 1) t) (done i)

unfoldable pub lowest_row : Pivoting
lowest_row n k t = lowest_from n k (n - k) k t

-- the former calculation, document 01, Elimination: 'pivot (k, k) must not contain 0', and no row is looked for
unfoldable pub in_place : Pivoting
in_place n k t = cond (contains_zero (at t (cell n k k))) (refused (refusal.ContainsZero (k + 1))) (done k)

-- the intervals at p and q change places
unfoldable pub exchanged : (p q : ℕ) → List ℤ → List ℤ
exchanged p q t = put (put t p (at t q)) q (at t p)

-- of the rows k and i the columns j, j + 1, .., d of them
unfoldable pub swapped_columns : (n k i : ℕ) → (d j : ℕ) → List ℤ → List ℤ
swapped_columns n k i zero j t = t
swapped_columns n k i (suc d) j t = swapped_columns n k i d (j + 1) (exchanged (cell n k j) (cell n i j) t)

-- the rows k and i, from column k on, and their right sides; factors, which stand left of it, stay where they were put
unfoldable pub swapped : (n k i : ℕ) → List ℤ → List ℤ
swapped n k i t = exchanged (rhs n k) (rhs n i) (swapped_columns n k i (n - k) k t)
