-- An elimination that is accepted leaves 2·n numbers, all of them ends of acceptable intervals, by either row sum.
use mathlib.Core.Path.{◌≡◌, refl, sym, ◌∙◌, subst}
use mathlib.Core.Bool.{true}
use mathlib.Core.List.{List}
use Prim.Native.Nat.{ℕ, zero, suc, ◌*◌, ◌≤◌, ◌<◌}
use native.Mathlib.Omega.{arith}
use native.Mathlib.Decide.{dec_lt}
use lib.IntN.{ℤ}
use lib.ListN.{length, drop, length-drop}
use lib.Seq.{length-take-le}
use lib.Signed.{◌≤ℤ◌}
use Rattle.outcome.specs.Run.{done}
use Rattle.outcome.proofs.Run.{done_same, joined}
use Rattle.interval.specs.Interval.{acceptable}
use Rattle.interval.proofs.Range.{is_sound, accept}
use Rattle.inputs.specs.Place.{at, cell}
use Rattle.inputs.specs.Code.{Sound}
use Rattle.inputs.specs.System.{System, tests}
use Rattle.inputs.proofs.Place.{at_past}
use Rattle.inputs.proofs.System.{ready}
use Rattle.inputs.proofs.Accepted.{tested_done}
use Rattle.rows.specs.Sum.{RowSum, once, singly}
use Rattle.rows.proofs.Once.{once_order, singly_order}
use Rattle.forward.specs.Run.{rhs}
use Rattle.forward.specs.Pivot.{lowest_row}
use Rattle.forward.specs.Forward.{table}
use Rattle.forward.specs.Code.{Working, Pivots}
use Rattle.forward.proofs.Run.{ranged}
use Rattle.forward.proofs.Value.{quotient_order}
use Rattle.forward.proofs.Kept.{forward_pivots}
use Rattle.elimination.specs.Back.{numerator, back}
use Rattle.elimination.specs.Call.{copied, box, none_taken, solved, run_A, run_B, ended_A, ended_B}
use Rattle.elimination.proofs.Accepted.{accepted_A, accepted_B}
use Rattle.elimination.proofs.Call.{copied_working}
use Rattle.accuracy.proofs.Copy.{box_at}
use Rattle.fraction.proofs.Contains.{contains_refl}
use Rattle.inside_former.proofs.Narrow.{difference_narrow}
use Rattle.inside_former.proofs.Working.{working_put, pivots_put, forward_working, formed_working}

-- a box for n vats
pub record Box (n : ℕ) (X : List ℤ) : Type 0 where
  pub as_long : length X ≡ 2 * n
  pub sound : Sound X

-- past its end, as past the end of t, all is nought
box_of : (n : ℕ) (t : List ℤ) → Working n t → Box n (box n t)
unfolding box
box_of n t w = record { as_long = long; sound = record { each = λ p. go p (dec_lt p n) } }
  where
    long : length (box n t) ≡ 2 * n
    long = length-take-le (2 * n) (drop (2 * (n * n)) t) (rw (length-drop (2 * (n * n)) t) (omega (arith, w.room)))

    go : (p : ℕ) → Dec (p < n) → acceptable (at (box n t) p) ≡ true
    go p (yes h) = rw (box_at n t p h) (w.sound.each (rhs n p))
    go p (no h) = rw (at_past (box n t) p (omega (arith, long, h)) ∙ sym (at_past t (length t) (omega arith))) (w.sound.each (length t))

-- ---- a row sum with its ends in sequence
pub record Ordered (sum : RowSum) : Type 0 where
  pub each : (t : List ℤ) (p q d : ℕ) → (sum t p t q d).lo ≤ℤ (sum t p t q d).hi

pub singly_ordered : Ordered singly
singly_ordered = record { each = λ t p q d. singly_order t p t q d }

pub once_ordered : Ordered once
once_ordered = record { each = λ t p q d. once_order t p t q d }

module _ (sum : RowSum) (ordered : Ordered sum) where
  numerator_order : (n i : ℕ) (t : List ℤ) → Sound t → (numerator sum n i t).lo ≤ℤ (numerator sum n i t).hi
  unfolding numerator
  numerator_order n i t s = (difference_narrow (at t (rhs n i)) (is_sound _ (s.each (rhs n i))).order (contains_refl _) (ordered.each t _ _ _)).order

  back_working : (n i : ℕ) (t t' : List ℤ) → i ≤ n → Pivots n t → Working n t → back sum n i t ≡ done t' → Working n t'
  unfolding back
  back_working n zero t t' b P w e = subst (λ t. Working n t) (done_same e) w
  back_working n (suc i) t t' b P w e =
      let a = ranged _ _ _ t' e in
      let c = ranged _ _ _ t' a.rest in
      let u = accept (numerator sum n i t) (numerator_order n i t w.sound) a.in_range_lem in
      let o = quotient_order (numerator sum n i t) (at t (cell n i i)) u (w.sound.each _) (P.each i (omega arith)) in
      back_working n i _ t' (omega arith) (pivots_put i _ P) (working_put (rhs n i) _ w (omega (arith, w.room)) o c.in_range_lem) c.rest

  solved_box : (n : ℕ) (t X : List ℤ) → Working n t → solved lowest_row sum n t ≡ done X → Box n X
  unfolding solved
  solved_box n t X w e =
      let a = joined _ _ X e in
      let b = joined _ _ X a.rest in
      let s = a.mid in
      let w₁ = forward_working n (table t none_taken) s w a.first in
      let P = forward_pivots n (table t none_taken) s w.room a.first in
      subst (λ X. Box n X) (done_same b.rest) (box_of n b.mid (back_working n n s.numbers b.mid (omega arith) P w₁ b.first))

  -- ---- the two calls
  module _ (s : System) (lent : List ℤ) where
    pub box_A : (ended_A lowest_row sum s lent).number ≡ 0 → Box s.size (ended_A lowest_row sum s lent).left
    unfolding run_A
    box_A h =
        let a = tested_done (tests s (length lent)) _ _ (accepted_A sum s lent h refl) in
        solved_box s.size (copied s) _ (copied_working s (length lent) (ready s (length lent) a.0)) a.1

    pub box_B : (ended_B lowest_row sum s lent).number ≡ 0 → Box s.size (ended_B lowest_row sum s lent).left
    unfolding run_B
    box_B h =
        let a = tested_done (tests s (length lent)) _ _ (accepted_B sum s lent h refl) in
        let b = joined _ _ _ a.1 in
        let w = copied_working s (length lent) (ready s (length lent) a.0) in
        solved_box s.size b.mid _ (formed_working s.size s.size 0 (copied s) b.mid (omega arith) w b.first) b.rest
