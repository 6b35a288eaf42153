-- One pass: where the pass over the inner box is whole, so is the one over the outer, and the boxes that they leave lie so again; by two row
-- sums of which the inner one's lies inside the outer one's.
use mathlib.Core.Path.{◌≡◌, refl, sym, ◌∙◌}
use mathlib.Core.Bool.{Bool, true, false, cond}
use mathlib.Core.List.{List, [], ◌∷◌, ◌++◌}
use Prim.Native.Nat.{ℕ, ◌+◌, ◌*◌, ◌<◌}
use native.Mathlib.Omega.{arith}
use native.Mathlib.Nat.{zero-add}
use native.Mathlib.Decide.{ℕ_discrete}
use lib.IntN.{ℤ}
use lib.Signed.{◌≤ℤ◌, clash_ℤ}
use Rattle.integer.specs.Extremes.{minimum, maximum}
use Rattle.integer.proofs.Order.{trans, taken, left}
use Rattle.integer.proofs.Extremes.{le_max_left, le_max_right, min_le_left, min_le_right, min_ind, max_ind}
use Rattle.outcome.specs.declared.Refusal.TheVariants as refusal
use Rattle.outcome.specs.Run.{Run, refused}
use Rattle.interval.specs.declared.Interval.{Interval}
use Rattle.interval.specs.Interval.{intersection, is_empty}
use Rattle.interval.proofs.Range.{is_sound}
use Rattle.fraction.specs.Meaning.{Contains}
use Rattle.inputs.specs.Place.{at, put}
use Rattle.inputs.specs.System.{System}
use Rattle.inputs.proofs.Place.{at_put_same, at_put_other}
use Rattle.rows.specs.Sum.{RowSum, singly, once}
use Rattle.rows.proofs.Once.{Narrow, once_inside, sum_contains, once_narrows}
use Rattle.sweep.specs.Pass.{component, along, up, down, sweep, symmetric}
use Rattle.sweep.specs.Code.{Ready}
use Rattle.sweep.proofs.Turns.{Below, sweep_below, symmetric_below, symmetric_along}
use Rattle.sweep.proofs.Pass.{ready_put, ready_after}
use Rattle.fraction.proofs.Contains.{contains_refl}
use Rattle.inside_former.proofs.Inner.{Inner, narrow, OnPasses}

-- ---- intersections of narrower intervals
meet_contains : {u v w z : Interval} → Contains u v → Contains w z → Contains (intersection u w) (intersection v z)
unfolding intersection
meet_contains {u} {v} {w} {z} h k =
    record {
      low = max_ind u.lo w.lo (λ t. t ≤ℤ maximum v.lo z.lo) (λ e. trans k.low (le_max_right _ _)) (λ e. trans h.low (le_max_left _ _));
      high = min_ind u.hi w.hi (λ t. minimum v.hi z.hi ≤ℤ t) (λ e. trans (min_le_right _ _) k.high) (λ e. trans (min_le_left _ _) h.high);
    }

-- what holds a non-empty interval is not empty
empty_inside : {A : Type 0} {v w : Interval} → Contains v w → is_empty v ≡ true → is_empty w ≡ false → A
unfolding is_empty
empty_inside {v = v} {w} h e f = clash_ℤ (taken v.hi v.lo e) (trans h.low (trans (left w.hi w.lo f) h.high))

-- ---- two row sums of which the second, of a narrower box, lies inside the first
pub record Tighter (f g : RowSum) : Type 0 where
  pub each : (m : List ℤ) (p : ℕ) (x y : List ℤ) (d : ℕ) → ((i : ℕ) → i < d → Narrow (at m (p + i)) (at m (p + i))) → ((i : ℕ) → i < d → Narrow (at x (0 + i)) (at y (0 + i))) →
      Contains (f m p x 0 d) (g m p y 0 d)

-- the former row sum and the new one; and the new one twice
pub singly_once : Tighter singly once
singly_once = record { each = λ m p x y d. once_inside m p x 0 m y d }

pub once_once : Tighter once once
once_once = record { each = λ m p x y d. once_narrows m p x 0 m y d }

-- ---- the system has passed its tests, with some box
module _ {f g : RowSum} (tighter : Tighter f g) (s : System) (Z : List ℤ) (tested : Ready s.size s.matrix s.right Z) where
  abbrev n : ℕ
  n = s.size

  module _ {X Y : List ℤ} (h : Inner n X Y) (i : ℕ) (b : i < n) where
    component_inside : Contains (component f s X i) (component g s Y i)
    unfolding component
    component_inside =
        meet_contains
        (sum_contains (contains_refl (at s.right i))
        (tighter.each s.matrix (i * n) X Y n
        (λ j l. record { inside = contains_refl _; order = (is_sound _ (tested.matrix_sound.each (i * n + j))).order })
        (λ j l. rw (zero-add j) (narrow h j l))))
        (h.inside.each i b)

    put_inner : is_empty (component f s X i) ≡ false → is_empty (component g s Y i) ≡ false → Inner n (put X i (component f s X i)) (put Y i (component g s Y i))
    put_inner e u =
        let x = ready_put f (ready_after tested (h.former ∙ sym tested.box) h.former_sound) i b e in
        let y = ready_put g (ready_after tested (h.new ∙ sym tested.box) h.new_sound) i b u in
        record {
          former = x.box;
          new = y.box;
          former_sound = x.box_sound;
          new_sound = y.box_sound;
          inside = record { each = λ j l. inside j l (ℕ_discrete j i) };
        }
      where
        inside : (j : ℕ) → j < n → Dec (j ≡ i) → Contains (at (put X i (component f s X i)) j) (at (put Y i (component g s Y i)) j)
        inside j l (yes e) = rw (e, at_put_same X i (component f s X i) (omega (arith, h.former)), at_put_same Y i (component g s Y i) (omega (arith, h.new))) component_inside
        inside j l (no e) = rw (at_put_other X i j (component f s X i) e, at_put_other Y i j (component g s Y i) e) (h.inside.each j l)

  pub along_inner : (is : List ℕ) → Below n is → {X Y : List ℤ} → Inner n X Y → OnPasses n (along f s is X) (along g s is Y)
  unfolding along
  along_inner [] b h = h
  along_inner (i ∷ is) b {X} {Y} h =
      go (is_empty v) refl (is_empty w) refl (component_inside h i b.0) (λ e u. along_inner is b.1 (put_inner h i b.0 e u))
    where
      v : Interval
      v = component f s X i

      w : Interval
      w = component g s Y i

      former : Run (List ℤ)
      former = along f s is (put X i v)

      new : Run (List ℤ)
      new = along g s is (put Y i w)

      go : (t : Bool) → is_empty v ≡ t → (u : Bool) → is_empty w ≡ u → Contains v w → (is_empty v ≡ false → is_empty w ≡ false → OnPasses n former new)
          → OnPasses n (cond t (refused (refusal.Empty (i + 1))) former) (cond u (refused (refusal.Empty (i + 1))) new)
      go t p true q c k = refl
      go true p false q c k = empty_inside c p q
      go false p false q c k = k p q

  pub sweep_inner : (X Y : List ℤ) → Inner n X Y → OnPasses n (sweep f s X) (sweep g s Y)
  unfolding sweep
  sweep_inner X Y h = along_inner (up n 0) (sweep_below n) h

  pub symmetric_inner : (X Y : List ℤ) → Inner n X Y → OnPasses n (symmetric f s X) (symmetric g s Y)
  symmetric_inner X Y h = rw (symmetric_along f s X, symmetric_along g s Y) (along_inner (up n 0 ++ down n) (symmetric_below n) h)
