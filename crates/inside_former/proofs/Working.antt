-- All intervals of the working copy stay acceptable: what a part of the calculation places has its ends in sequence and passed the range
-- test.
use mathlib.Core.Path.{◌≡◌, refl, subst}
use mathlib.Core.Bool.{true, false}
use mathlib.Core.List.{List}
use Prim.Native.Nat.{ℕ, zero, suc, ◌+◌, ◌-◌, ◌*◌, ◌≤◌, ◌<◌}
use native.Mathlib.Omega.{arith}
use lib.IntN.{ℤ}
use lib.ListN.{length}
use lib.Signed.{◌≤ℤ◌}
use Rattle.interval.specs.declared.Interval.{Interval}
use Rattle.interval.specs.Interval.{in_range, acceptable, contains_zero, quotient}
use Rattle.interval.proofs.Range.{accept}
use Rattle.inputs.specs.Place.{at, put, cell}
use Rattle.inputs.proofs.Place.{length_put, at_put_other, sound_put, cell_before}
use Rattle.outcome.specs.Run.{done}
use Rattle.outcome.proofs.Run.{done_same, joined}
use Rattle.forward.specs.Run.{rhs}
use Rattle.forward.specs.Pivot.{lowest_row}
use Rattle.forward.specs.Forward.{Table, columns, right_side, rows, pivots, forward}
use Rattle.forward.specs.Formed.{identity, formed_row, formed_rows}
use Rattle.forward.specs.Code.{Working, Pivots}
use Rattle.forward.proofs.Index.{cell_room}
use Rattle.forward.proofs.Value.{reduced_order, quotient_order, quotient_accepted}
use Rattle.forward.proofs.Step.{working_after}
use Rattle.forward.proofs.Swap.{swapped_working}
use Rattle.forward.proofs.Kept.{step_serves, step_apart}
use Rattle.forward.proofs.Run.{ranged, stepped}
use Rattle.forward.proofs.Formed.{entry_ready}

same : {n : ℕ} {t t' : List ℤ} → Working n t → done t ≡ done t' → Working n t'
same {n} w e = subst (λ t. Working n t) (done_same e) w

pub working_put : {n : ℕ} {t : List ℤ} (p : ℕ) (v : Interval) → Working n t → 2 * p + 1 < length t → v.lo ≤ℤ v.hi → in_range v ≡ true → Working n (put t p v)
working_put {t = t} p v w l o e = working_after w (length_put t p v) (sound_put t p v w.sound l (accept v o e))

-- the pivots stand before the right side
pub pivots_put : {n : ℕ} {t : List ℤ} (i : ℕ) (v : Interval) → Pivots n t → Pivots n (put t (rhs n i) v)
pivots_put {n} {t} i v P = record { each = λ k h. rw (at_put_other t (rhs n i) (cell n k k) v (omega (arith, cell_before n k k h h))) (P.each k h) }

-- ---- the forward part
module _ (n k i : ℕ) (m : Interval) (h : k < n) (g : i < n) (a : acceptable m ≡ true) where
  columns_working : (d j : ℕ) (t t' : List ℤ) → j + d ≤ n → Working n t → columns n k i m d j t ≡ done t' → Working n t'
  unfolding columns
  columns_working zero j t t' b w e = same w e
  columns_working (suc d) j t t' b w e =
      let r = ranged _ _ _ t' e in
      let o = reduced_order (at t (cell n i j)) m (at t (cell n k j)) (w.sound.each _) a (w.sound.each _) in
      columns_working d (j + 1) _ t' (omega arith) (working_put (cell n i j) _ w (cell_room n i j w g (omega arith)) o r.in_range_lem) r.rest

  right_side_working : (t t' : List ℤ) → Working n t → right_side n k i m t ≡ done t' → Working n t'
  unfolding right_side
  right_side_working t t' w e =
      let r = ranged _ _ _ t' e in
      let o = reduced_order (at t (rhs n i)) m (at t (rhs n k)) (w.sound.each _) a (w.sound.each _) in
      same (working_put (rhs n i) _ w (omega (arith, w.room)) o r.in_range_lem) r.rest

module _ (n k : ℕ) (pivot : Interval) (h : k < n) (a : acceptable pivot ≡ true) (z : contains_zero pivot ≡ false) where
  rows_working : (d i : ℕ) (t t' : List ℤ) → i + d ≤ n → Working n t → rows n k pivot d i t ≡ done t' → Working n t'
  unfolding rows
  rows_working zero i t t' b w e = same w e
  rows_working (suc d) i t t' b w e =
      let g : i < n = omega arith in
      let x = at t (cell n i k) in
      let r = ranged _ _ _ t' e in
      let c = joined _ _ t' r.rest in
      let u = joined _ _ t' c.rest in
      let f = quotient_accepted x pivot (w.sound.each _) a z r.in_range_lem in
      let w₁ = working_put (cell n i k) (quotient x pivot) w (cell_room n i k w g h) (quotient_order x pivot (w.sound.each _) a z) r.in_range_lem in
      let w₂ = columns_working n k i (quotient x pivot) h g f (n - (k + 1)) (k + 1) _ c.mid (omega arith) w₁ c.first in
      let w₃ = right_side_working n k i (quotient x pivot) h g f c.mid u.mid w₂ u.first in
      rows_working d (i + 1) u.mid t' (omega arith) w₃ u.rest

pivots_working : (n d k : ℕ) (s s' : Table) → k + d ≤ n → Working n s.numbers → pivots lowest_row n d k s ≡ done s' → Working n s'.numbers
unfolding pivots
pivots_working n zero k s s' b w e = subst (λ (z : Table). Working n z.numbers) (done_same e) w
pivots_working n (suc d) k s s' b w e =
    let h : k < n = omega arith in
    let x = stepped lowest_row n d k s s' e in
    let v = step_serves n d k s s' h w.room x in
    let w₁ = swapped_working n k x.row h v.below s.numbers w in
    let w₂ = rows_working n k _ h (w₁.sound.each _) (step_apart n d k s s' h w.room x) (n - (k + 1)) (k + 1) _ x.mid (omega arith) w₁ x.below in
    pivots_working n d (k + 1) _ s' (omega arith) w₂ x.rest

pub forward_working : (n : ℕ) (s s' : Table) → Working n s.numbers → forward lowest_row n s ≡ done s' → Working n s'.numbers
unfolding forward
forward_working n s s' w e = pivots_working n n 0 s s' (omega arith) w e

-- ---- I − B
row_working : (n i : ℕ) → i < n → (d j : ℕ) (t t' : List ℤ) → j + d ≤ n → Working n t → formed_row n i d j t ≡ done t' → Working n t'
unfolding formed_row
row_working n i g zero j t t' b w e = same w e
row_working n i g (suc d) j t t' b w e =
    let r = ranged _ _ _ t' e in
    let p = entry_ready {n = n} {i = i} {j = j} {t = t} (w, g, omega arith) {u = identity i j} {b = at t (cell n i j)} refl refl refl in
    row_working n i g d (j + 1) _ t' (omega arith) (working_put (cell n i j) _ w p.1 p.2 r.in_range_lem) r.rest

pub formed_working : (n d i : ℕ) (t t' : List ℤ) → i + d ≤ n → Working n t → formed_rows n d i t ≡ done t' → Working n t'
unfolding formed_rows
formed_working n zero i t t' b w e = same w e
formed_working n (suc d) i t t' b w e =
    let a = joined _ _ t' e in
    formed_working n d (i + 1) a.mid t' (omega arith) (row_working n i (omega arith) n 0 t a.mid (omega arith) w a.first) a.rest
