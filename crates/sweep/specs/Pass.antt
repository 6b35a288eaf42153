-- Document 01, Sweeps; document 003, rule b)*: one sweep. Document 02, A5; document 001, section 4 and footnote 3: one pass there and back.
use Rattle.std.specs.Prelude.{Bool, false, cond, ◌||◌, List, [], ◌∷◌, ℕ, zero, suc, ◌+◌, ◌*◌, ℤ}
use Rattle.std.specs.Int.Signed.{lt_z}
use Rattle.outcome.specs.declared.Refusal.TheVariants as refusal
use Rattle.outcome.specs.Run.{Run, refused, done, and_then}
use Rattle.interval.specs.declared.Interval.{Interval}
use Rattle.interval.specs.Interval.{exact_sum, intersection, is_empty}
use Rattle.inputs.specs.Place.{at, put}
use Rattle.inputs.specs.System.{System}
use Rattle.rows.specs.Sum.{RowSum}

-- 'the sum of b(i) and all B(i,j)·X(j) …, is intersected with X(i). The sum itself has no range test'
unfoldable pub component : RowSum → System → List ℤ → (i : ℕ) → Interval
component sum s X i = intersection (exact_sum (at s.right i) (sum s.matrix (i * s.size) X 0 s.size)) (at X i)

-- the components of a list, one after the other, each with the newest X(j): going up, 'with new, already intersected X(j) for j < i and old
-- ones from i on'; either way 'the diagonal share meets its vat's own newest box'. An empty intersection is 7 with its component
unfoldable pub along : RowSum → System → List ℕ → List ℤ → Run (List ℤ)
along sum s [] X = done X
along sum s (i ∷ is) X =
    cond (is_empty (component sum s X i)) (refused (refusal.Empty (i + 1))) (along sum s is (put X i (component sum s X i)))

-- the components i, i + 1, .., d of them; and i − 1, i − 2, .., 0
unfoldable pub up : (d i : ℕ) → List ℕ
up zero i = []
up (suc d) i = i ∷ up d (i + 1)

unfoldable pub down : (i : ℕ) → List ℕ
down zero = []
down (suc i) = i ∷ down i

-- 'For i from 1 to n'
unfoldable pub sweep : RowSum → System → List ℤ → Run (List ℤ)
sweep sum s X = along sum s (up s.size 0) X

-- 'a sweep from vat 1 to n, then one from n to 1 that uses the newest boxes, each component intersected'. 'Both together are one pass'
unfoldable pub symmetric : RowSum → System → List ℤ → Run (List ℤ)
symmetric sum s X = and_then (sweep sum s X) (λ Y. along sum s (down s.size) Y)

-- the two have not the same ends
unfoldable pub differs : Interval → Interval → Bool
differs v w = (lt_z v.lo w.lo || lt_z w.lo v.lo) || (lt_z v.hi w.hi || lt_z w.hi v.hi)

-- a pass changed the box if the box after it differs from the one before, in an end of one of the components j, j + 1, .., d of them
unfoldable pub differ : (X Y : List ℤ) → (d j : ℕ) → Bool
differ X Y zero j = false
differ X Y (suc d) j = differs (at X j) (at Y j) || differ X Y d (j + 1)
