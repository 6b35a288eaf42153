-- Step k writes to the rows from k on only, and its rows below the pivot's only, so the pivots stand to the end as they were taken.
use mathlib.Core.Path.{◌≡◌, refl, sym, ap, ◌∙◌, subst}
use mathlib.Core.Bool.{false}
use mathlib.Core.Logic.{◌≢◌}
use mathlib.Core.List.{List}
use Prim.Native.Nat.{ℕ, zero, suc, ◌+◌, ◌*◌, ◌≤◌, ◌<◌}
use native.Mathlib.Decide.{ℕ_discrete}
use native.Mathlib.Omega.{arith}
use lib.IntN.{ℤ}
use lib.ListN.{length}
use Rattle.interval.specs.declared.Interval.{Interval}
use Rattle.interval.specs.Interval.{contains_zero}
use Rattle.inputs.specs.Place.{at, put, cell}
use Rattle.inputs.proofs.Place.{length_put, at_put_other}
use Rattle.inputs.proofs.Tests.{rows_apart}
use Rattle.outcome.specs.Run.{done}
use Rattle.outcome.proofs.Run.{done_same, joined}
use Rattle.forward.specs.Run.{rhs}
use Rattle.forward.specs.Pivot.{lowest_row, swapped}
use Rattle.forward.specs.Forward.{Table, columns, right_side, rows, pivots, forward}
use Rattle.forward.specs.Code.{Pivots}
use Rattle.forward.proofs.Run.{ranged, Stepped, stepped}
use Rattle.forward.proofs.Pivot.{Serves, serves}
use Rattle.forward.proofs.Swap.{Swapped, rows_swapped}

-- ---- the list is as long as before, and has the same interval at q
record Stands (q : ℕ) (t t' : List ℤ) : Type 0 where
  as_long : length t' ≡ length t
  there : at t' q ≡ at t q

same : (q : ℕ) {s t : List ℤ} → done s ≡ done t → Stands q s t
same q {s} e = subst (λ t. Stands q s t) (done_same e) (record { as_long = refl; there = refl })

before_that : {q : ℕ} {t t₁ t₂ : List ℤ} → Stands q t₁ t₂ → Stands q t t₁ → Stands q t t₂
before_that a b = record { as_long = a.as_long ∙ b.as_long; there = a.there ∙ b.there }

elsewhere : (q p : ℕ) (t : List ℤ) (v : Interval) → q ≢ p → Stands q t (put t p v)
elsewhere q p t v h = record { as_long = length_put t p v; there = at_put_other t p q v h }

module _ (n q : ℕ) (before : q < n * n) where
  columns_kept : (k i : ℕ) (m : Interval) (d j : ℕ) (t t' : List ℤ) → q < i * n → columns n k i m d j t ≡ done t' → Stands q t t'
  unfolding columns
  columns_kept k i m zero j t t' h e = same q e
  columns_kept k i m (suc d) j t t' h e =
      before_that (columns_kept k i m d (j + 1) _ t' h (ranged _ _ _ t' e).rest) (elsewhere q (cell n i j) t _ (omega arith))

  right_side_kept : (k i : ℕ) (m : Interval) (t t' : List ℤ) → right_side n k i m t ≡ done t' → Stands q t t'
  unfolding right_side
  right_side_kept k i m t t' e = before_that (same q (ranged _ _ _ t' e).rest) (elsewhere q (rhs n i) t _ (omega arith))

  next_row : (i : ℕ) → q < i * n → q < (i + 1) * n
  next_row i h = omega (arith, rows_apart n i (i + 1) (omega arith))

  -- the rows from i on leave what stands before row i
  rows_kept : (k : ℕ) (pivot : Interval) (d i : ℕ) (t t' : List ℤ) → q < i * n → rows n k pivot d i t ≡ done t' → Stands q t t'
  unfolding rows
  rows_kept k pivot zero i t t' h e = same q e
  rows_kept k pivot (suc d) i t t' h e =
      let a = ranged _ _ _ t' e in
      let b = joined _ _ t' a.rest in
      let c = joined _ _ t' b.rest in
      before_that (rows_kept k pivot d (i + 1) c.mid t' (next_row i h) c.rest)
      (before_that (right_side_kept k i _ b.mid c.mid c.first)
      (before_that (columns_kept k i _ _ _ _ b.mid h b.first)
      (elsewhere q (cell n i k) t _ (omega arith))))

-- ---- one step: its row serves, is swapped with row k, and stands
module _ (n d k : ℕ) (s s' : Table) (h : k < n) (room : 2 * (n * n + n) ≤ length s.numbers) (x : Stepped lowest_row n d k s s') where
  pub step_serves : Serves n k x.row s.numbers
  step_serves = serves n k s.numbers x.row h x.chosen

  pub step_swapped : Swapped n k x.row s.numbers (swapped n k x.row s.numbers)
  step_swapped = rows_swapped n k x.row step_serves.below s.numbers room step_serves.from

  -- and what stands before row k + 1 is then left
  step_kept : (q : ℕ) → q < (k + 1) * n → Stands q (swapped n k x.row s.numbers) x.mid
  step_kept q l = rows_kept n q (omega (arith, up)) k _ _ _ _ x.mid l x.below
    where
      up : (k + 1) * n ≤ n * n
      up = omega (arith, rows_apart n k n h, rows_apart n k (k + 1) (omega arith))

  pivot_at : cell n k k < (k + 1) * n
  pivot_at = omega (arith, rows_apart n k (k + 1) (omega arith))

  pub step_long : length x.mid ≡ length s.numbers
  step_long = (step_kept (cell n k k) pivot_at).as_long ∙ step_swapped.as_long

  pub step_room : 2 * (n * n + n) ≤ length x.mid
  step_room = omega (arith, room, step_long)

  pub step_apart : contains_zero (at (swapped n k x.row s.numbers) (cell n k k)) ≡ false
  step_apart = ap contains_zero (step_swapped.first k (omega arith) h) ∙ step_serves.apart

  mid_apart : contains_zero (at x.mid (cell n k k)) ≡ false
  mid_apart = ap contains_zero (step_kept (cell n k k) pivot_at).there ∙ step_apart

-- ---- the steps from k on leave what stands before row k
module _ (n : ℕ) where
  pivots_kept : (q d k : ℕ) (s s' : Table) → k + d ≤ n → 2 * (n * n + n) ≤ length s.numbers → q < k * n → pivots lowest_row n d k s ≡ done s' → at s'.numbers q ≡ at s.numbers q
  unfolding pivots
  pivots_kept q zero k s s' b room h e = ap (λ (z : Table). at z.numbers q) (sym (done_same e))
  pivots_kept q (suc d) k s s' b room h e =
      let x = stepped lowest_row n d k s s' e in
      let l : q < (k + 1) * n = omega (arith, rows_apart n k (k + 1) (omega arith)) in
      let a : k < n = omega arith in
      pivots_kept q d (k + 1) _ s' (omega arith) (step_room n d k s s' a room x) l x.rest ∙
      (step_kept n d k s s' a room x q l).there ∙
      (step_swapped n d k s s' a room x).before q h

  pivots_apart : (d k : ℕ) (s s' : Table) → k + d ≤ n → 2 * (n * n + n) ≤ length s.numbers → pivots lowest_row n d k s ≡ done s' → (l : ℕ) → k ≤ l → l < k + d → contains_zero (at s'.numbers (cell n l l)) ≡ false
  pivots_apart zero k s s' b room e l u v = absurd (omega arith)
  pivots_apart (suc d) k s s' b room e l u v =
      let x = stepped lowest_row n d k s s' e in
      let a : k < n = omega arith in
      let r = step_room n d k s s' a room x in
      go (ℕ_discrete l k)
      (ap contains_zero (pivots_kept (cell n k k) d (k + 1) _ s' (omega arith) r (pivot_at n d k s s' a room x) x.rest) ∙ mid_apart n d k s s' a room x)
      (pivots_apart d (k + 1) _ s' (omega arith) r x.rest l)
    where
      go : Dec (l ≡ k) → contains_zero (at s'.numbers (cell n k k)) ≡ false → (k + 1 ≤ l → l < k + 1 + d → contains_zero (at s'.numbers (cell n l l)) ≡ false) → contains_zero (at s'.numbers (cell n l l)) ≡ false
      go (yes f) now later = rw f now
      go (no f) now later = later (omega (arith, f)) (omega arith)

pub forward_pivots : (n : ℕ) (s s' : Table) → 2 * (n * n + n) ≤ length s.numbers → forward lowest_row n s ≡ done s' → Pivots n s'.numbers
unfolding forward
forward_pivots n s s' room e = record { each = λ k h. pivots_apart n n 0 s s' (omega arith) room e k (omega arith) (omega arith) }
