-- A box that lies inside another, both of them boxes that a call accepts: what is carried from sweep to sweep.
use mathlib.Core.Path.{◌≡◌, refl, sym, subst, ◌∙◌}
use mathlib.Core.Bool.{Bool, true, false, ◌||◌}
use mathlib.Core.List.{List}
use Prim.Native.Nat.{ℕ, zero, suc, ◌+◌, ◌*◌, ◌<◌}
use native.Mathlib.Omega.{arith}
use native.Mathlib.Nat.{zero-add}
use lib.Dec.{T}
use lib.IntN.{ℤ}
use lib.ListN.{length}
use lib.Signed.{lt_z}
use Rattle.integer.proofs.Order.{antisym, left}
use Rattle.interval.specs.declared.Interval.{Interval}
use Rattle.interval.proofs.Range.{is_sound, same_ends, or_neither}
use Rattle.inputs.specs.Place.{at}
use Rattle.inputs.specs.Code.{Sound}
use Rattle.inputs.proofs.Place.{numbers_is}
use Rattle.rows.proofs.Once.{Narrow}
use Rattle.outcome.specs.Run.{Run, refused, done}
use Rattle.outcome.specs.Table.{number_and_place}
use Rattle.sweep.specs.Pass.{differs, differ}
use Rattle.accuracy.specs.Claim.{Narrowed}
use Rattle.fraction.proofs.Contains.{contains_refl}
use Rattle.std.specs.Prelude.{Err}

-- Y lies inside X
pub record Inner (n : ℕ) (X Y : List ℤ) : Type 0 where
  pub former : length X ≡ 2 * n
  pub new : length Y ≡ 2 * n
  pub former_sound : Sound X
  pub new_sound : Sound Y
  pub inside : Narrowed n X Y

pub narrowed_refl : (n : ℕ) (X : List ℤ) → Narrowed n X X
narrowed_refl n X = record { each = λ j h. contains_refl (at X j) }

pub narrow : {n : ℕ} {X Y : List ℤ} → Inner n X Y → (j : ℕ) → j < n → Narrow (at X j) (at Y j)
narrow {Y = Y} h j l = record { inside = h.inside.each j l; order = (is_sound (at Y j) (h.new_sound.each j)).order }

-- a pass over the former box, and one over the new: where the new one is whole, so is the former. A pass is refused with 7
abbrev pub OnPasses : (n : ℕ) → Run (List ℤ) → Run (List ℤ) → Type 0
OnPasses n p (refused o) = (number_and_place (Err o)).number ≡ 7
OnPasses n (refused o) (done Y) = ⊥
OnPasses n (done X) (done Y) = Inner n X Y

-- ---- a box that does not differ from another as long is the same
same_interval : (v w : Interval) → differs v w ≡ false → v ≡ w
unfolding differs
same_interval v w e =
    let a = or_neither _ _ e in
    let l = or_neither (lt_z v.lo w.lo) _ a.0 in
    let u = or_neither (lt_z v.hi w.hi) _ a.1 in
    same_ends v w (antisym _ _ (left _ _ l.1) (left _ _ l.0)) (antisym _ _ (left _ _ u.1) (left _ _ u.0))

same_each : (X Y : List ℤ) (d j : ℕ) → differ X Y d j ≡ false → (i : ℕ) → i < d → at X (j + i) ≡ at Y (j + i)
unfolding differ
same_each X Y zero j e i h = absurd (omega arith)
same_each X Y (suc d) j e zero h = let z : j + 0 ≡ j = omega arith in rw z (same_interval _ _ (or_neither _ (differ X Y d (j + 1)) e).0)
same_each X Y (suc d) j e (suc i) h =
    let z : j + suc i ≡ j + 1 + i = omega arith in
    rw z (same_each X Y d (j + 1) (or_neither (differs (at X j) (at Y j)) _ e).1 i (omega arith))

pub same_box : (n : ℕ) {X Y : List ℤ} → length X ≡ 2 * n → length Y ≡ 2 * n → differ X Y n 0 ≡ false → X ≡ Y
same_box n {X} {Y} l m e =
    numbers_is (at Y) n X l (λ p h. rw (zero-add p) at (same_each X Y n 0 e p h)) ∙ sym (numbers_is (at Y) n Y m (λ p h. refl))
