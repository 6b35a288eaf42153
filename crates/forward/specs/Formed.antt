-- Document 01, Elimination: the second call 'first forms I − B, row by row, each entry in the range'.
use Rattle.std.specs.Prelude.{cond, List, ℕ, zero, suc, ◌+◌, eqb, ℤ}
use Rattle.interval.specs.declared.Interval.{Interval}
use Rattle.interval.specs.Interval as interval
use Rattle.inputs.specs.Place.{at, put, cell}
use Rattle.outcome.specs.Run.{Run, done, and_then}
use Rattle.forward.specs.Run.{in_range_then}

-- an entry of I
unfoldable pub identity : (i j : ℕ) → Interval
identity i j = cond (eqb i j) interval.one interval.zero

-- the columns j, j + 1, .. of row i, d of them
unfoldable pub formed_row : (n i : ℕ) → (d j : ℕ) → List ℤ → Run (List ℤ)
formed_row n i zero j t = done t
formed_row n i (suc d) j t =
    in_range_then (i + 1) (interval.exact_difference (identity i j) (at t (cell n i j))) (λ v. formed_row n i d (j + 1) (put t (cell n i j) v))

-- the rows i, i + 1, .., d of them
unfoldable pub formed_rows : (n : ℕ) → (d i : ℕ) → List ℤ → Run (List ℤ)
formed_rows n zero i t = done t
formed_rows n (suc d) i t = and_then (formed_row n i n 0 t) (λ t₁. formed_rows n d (i + 1) t₁)
