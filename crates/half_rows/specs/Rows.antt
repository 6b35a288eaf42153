-- Document 02, A6; document 001, section 4: the sums left and right of the diagonal, a half pass that reads those of one side and works
-- out those of the other, and what one new component changes in them.
-- 'back' is the way from n to 1; the other is the way there, from 1 to n. The way there works out the sums left of the diagonal, the way
-- back those right of it: in both, over the components that it has already passed.
use Rattle.std.specs.Prelude.{Bool, cond, ◌&&◌, List, [], ◌∷◌, ℕ, zero, suc, ◌+◌, ◌-◌, ◌*◌, ℤ, ◌-ℤ◌, take, drop, Ok, Err}
use Rattle.outcome.specs.declared.Refusal.TheVariants as refusal
use Rattle.outcome.specs.Run.{Run, refused, done}
use Rattle.interval.specs.declared.Interval.{Interval}
use Rattle.interval.specs.Interval as interval
use Rattle.interval.specs.Interval.{ends, scale, acceptable, exact_sum, exact_product, rounded, intersection, is_empty}
use Rattle.inputs.specs.Place.{at, put, cell}
use Rattle.inputs.specs.Tests.{Test, proper}
use Rattle.inputs.specs.System.{System}
use Rattle.rows.specs.Sum.{exactly}
use Rattle.kept_sums.specs.Kept.{sum_at, put_sum, sum_ready}
use Rattle.sweep.specs.Pass.{up, down}

-- the components that lie behind component i on its way, of n: the first of them, and how many
unfoldable pub first : (back : Bool) → (i : ℕ) → ℕ
first back i = cond back (i + 1) 0

unfoldable pub beside : (back : Bool) → (n i : ℕ) → ℕ
beside back n i = cond back (n - (i + 1)) i

-- 'the unrounded sums left and right of the diagonal': row i's products with those components, 'worked out afresh'. The diagonal is in
-- neither
unfoldable pub side : (back : Bool) → System → (X : List ℤ) → (i : ℕ) → Interval
side back s X i =
    exactly s.matrix (cell s.size i (first back i)) X (first back i) (beside back s.size i) 0 interval.zero

-- the new component i: the side that is worked out, the diagonal share with the newest box, and the side that is kept, rounded once
unfoldable pub joined : (back : Bool) → System → (X : List ℤ) → (i : ℕ) → (kept : Interval) → Interval
joined back s X i k =
    intersection
    (exact_sum (at s.right i)
    (rounded scale (exact_sum (exact_sum (side back s X i) (exact_product (at s.matrix (cell s.size i i)) (at X i))) k)))
    (at X i)

-- ---- 'any other value may meet 19': numbers that no operation left are met where they are read
unfoldable pub of_state : {A : Type 0} → Test → Run A → Run A
of_state (Ok _) r = r
of_state (Err o) r = refused refusal.NotDue

-- so many numbers of a list from a place on
abbrev pub part : List ℤ → (from count : ℕ) → List ℤ
part t from count = take count (drop from t)

-- row i from its beginning to the diagonal, or from the diagonal to its end
unfoldable pub begin : (back : Bool) → (i : ℕ) → ℕ
begin back i = cond back i 0

unfoldable pub half_row : (back : Bool) → System → (i : ℕ) → List ℤ
half_row back s i = part s.matrix (2 * cell s.size i (begin back i)) (2 * (beside back s.size i + 1))

-- ---- a half pass, with the sums K of the side ahead and the sums F of the side behind
pub record Worked : Type 0 where
  pub box : List ℤ
  pub sums : List ℤ

abbrev pub worked : (X F : List ℤ) → Worked
worked X F = record { box = X; sums = F }

unfoldable pub components : (back : Bool) → (n : ℕ) → List ℕ
components back n = cond back (down n) (up n 0)

unfoldable pub half_along : (back : Bool) → System → (K : List ℤ) → List ℕ → (X F : List ℤ) → Run Worked
half_along back s K [] X F = done (worked X F)
half_along back s K (i ∷ is) X F =
    of_state (proper (half_row back s i) (beside back s.size i + 1) 0 0)
    (cond (sum_ready K i)
    (cond (is_empty (joined back s X i (sum_at K i))) (refused (refusal.Empty (i + 1)))
    (half_along back s K is (put X i (joined back s X i (sum_at K i))) (put_sum F i (side back s X i))))
    (refused refusal.NotDue))

-- ---- one component becomes another
-- a kept sum that holds the product of a with old, with that of a with new in its place
unfoldable pub exchanged : (a old new kept : Interval) → Interval
exchanged a u v k =
    exact_sum k (ends ((exact_product a v).lo -ℤ (exact_product a u).lo) ((exact_product a v).hi -ℤ (exact_product a u).hi))

-- the kept sums K of the rows i, i + 1, .., d of them, renewed for component v
unfoldable pub renew : System → (v : ℕ) (old new : Interval) → (d i : ℕ) → (K : List ℤ) → Run (List ℤ)
renew s v old new zero i K = done K
renew s v old new (suc d) i K =
    cond (acceptable (at s.matrix (cell s.size i v)) && sum_ready K i)
    (renew s v old new d (i + 1) (put_sum K i (exchanged (at s.matrix (cell s.size i v)) old new (sum_at K i))))
    (refused refusal.NotDue)

-- ---- the sums of one side of every row, worked out afresh, for the rows i, i + 1, .., d of them
unfoldable pub sides : (back : Bool) → System → (X : List ℤ) → (d i : ℕ) → (K : List ℤ) → List ℤ
sides back s X zero i K = K
sides back s X (suc d) i K = sides back s X d (i + 1) (put_sum K i (side back s X i))
