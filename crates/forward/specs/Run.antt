-- Document 01, Elimination: 'The calculation stops at the first failing place in this sequence.'
use Rattle.std.specs.Prelude.{cond, List, ℕ, ◌+◌, ◌*◌, ℤ}
use Rattle.outcome.specs.declared.Refusal.TheVariants as refusal
use Rattle.outcome.specs.Run.{Run, refused}
use Rattle.interval.specs.declared.Interval.{Interval}
use Rattle.interval.specs.Interval.{in_range}

-- 'must be in the range': on with v, or 6 with this row
unfoldable pub in_range_then : ℕ → Interval → (Interval → Run (List ℤ)) → Run (List ℤ)
in_range_then row v f = cond (in_range v) (f v) (refused (refusal.OutOfRange row))

-- the numbers are those of the matrix and then those of the right side: where the right side of row i stands
abbrev pub rhs : (n i : ℕ) → ℕ
rhs n i = n * n + i
