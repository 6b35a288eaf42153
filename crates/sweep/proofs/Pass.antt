-- One turn of a pass, and what stays true of the box.
use mathlib.Core.Path.{◌≡◌, refl, sym, ◌∙◌}
use mathlib.Core.Bool.{Bool, true, false, ◌||◌}
use mathlib.Core.List.{List, [], ◌∷◌, ◌++◌}
use Prim.Native.Nat.{ℕ, ◌+◌, ◌-◌, ◌*◌, ◌<◌}
use native.Mathlib.Omega.{arith}
use native.Mathlib.Decide.{ℕ_discrete}
use native.Mathlib.Nat.{sub-zero}
use lib.IntN.{ℤ}
use lib.ListN.{length}
use lib.Signed.{◌≤ℤ◌}
use Rattle.integer.proofs.Order.{left, trans}
use Rattle.integer.proofs.Extremes.{le_max_right, min_le_right}
use Rattle.outcome.specs.declared.Refusal.{Refusal}
use Rattle.outcome.specs.Run.{Run, done}
use Rattle.interval.specs.declared.Interval.{Interval}
use Rattle.interval.specs.Interval.{acceptable, exact_sum, intersection, is_empty}
use Rattle.interval.specs.Code.{Representable}
use Rattle.interval.proofs.Range.{is_sound, sound_accepted}
use Rattle.fraction.specs.Meaning.{Contains}
use Rattle.fraction.proofs.Contains.{contains_refl, contains_trans, intersection_narrows}
use Rattle.inputs.specs.System.{System, system}
use Rattle.inputs.specs.Code.{Sound}
use Rattle.inputs.specs.Place.{at, put}
use Rattle.inputs.proofs.Place.{length_put, sound_put, at_put_same, at_put_other}
use Rattle.rows.specs.Sum.{RowSum, once}
use Rattle.rows.proofs.Size.{small_fits, sum_small, acceptable_small}
use Rattle.rows.proofs.Sum.{once_small}
use Rattle.std.specs.Prelude.{Some, Result, Ok, Err}
use Rattle.sweep.specs.declared.internal.pass.Way.{Way}
use Rattle.sweep.specs.declared.internal.pass.Way.TheVariants.{ThereAndBack}
use Rattle.sweep.specs.Pass.{component, along, up, down, differ}
use Rattle.sweep.specs.Code.{Ready, pass, Narrowed, Passed}
use Rattle.sweep.proofs.Changed.{differ_self, differ_put}
use Rattle.sweep.proofs.Turns.{back, pass_along}

-- what is not empty has its ends in sequence
pub not_empty : {v : Interval} → is_empty v ≡ false → v.lo ≤ℤ v.hi
unfolding is_empty
not_empty {v} e = left v.hi v.lo e

-- ---- one component
module _ {n : ℕ} {m r x : List ℤ} (w : Ready n m r x) (i : ℕ) where
  pub component_is : {b s o : Interval} → b ≡ at r i → s ≡ once m (i * n) x 0 n → o ≡ at x i → intersection (exact_sum b s) o ≡ component once (system n m r) x i
  unfolding component
  component_is e f g = λ k. intersection (exact_sum (e k) (f k)) (g k)

  pub component_fits : Representable (exact_sum (at r i) (once m (i * n) x 0 n))
  component_fits = small_fits (omega (arith, w.few)) (sum_small (acceptable_small _ (w.right_sound.each i)) (once_small m (i * n) x 0 n w.matrix_sound w.box_sound))

-- whatever the row sum is: it is no wider than the old component
pub component_narrows : (sum : RowSum) (s : System) (x : List ℤ) (i : ℕ) → Contains (at x i) (component sum s x i)
unfolding component
component_narrows sum s x i = intersection_narrows _ (at x i)

-- a box with a narrower component is no wider anywhere
pub put_narrows : (x : List ℤ) (i : ℕ) (v : Interval) → 2 * i + 1 < length x → Contains (at x i) v → (j : ℕ) → Contains (at x j) (at (put x i v) j)
put_narrows x i v room h j = go (ℕ_discrete j i)
  where
    go : Dec (j ≡ i) → Contains (at x j) (at (put x i v) j)
    go (yes e) = rw (e, at_put_same x i v room) h
    go (no e) = rw (at_put_other x i j v e) (contains_refl (at x j))

-- what an interval has in common with any other, if anything, is an interval
pub intersection_accepted : (u o : Interval) → acceptable o ≡ true → is_empty (intersection u o) ≡ false → acceptable (intersection u o) ≡ true
unfolding intersection
intersection_accepted u o a e =
    let s = is_sound o a in
    let h = not_empty e in
    let low = trans s.lo_in.low (le_max_right u.lo o.lo) in
    let high = trans (min_le_right u.hi o.hi) s.hi_in.high in
    sound_accepted _ (record { order = h; lo_in = record { low = low; high = trans h high }; hi_in = record { low = trans low h; high = high } })

-- so the box stays one of intervals
module _ (sum : RowSum) {n : ℕ} {m r x : List ℤ} (w : Ready n m r x) (i : ℕ) where
  component_accepted : is_empty (component sum (system n m r) x i) ≡ false → acceptable (component sum (system n m r) x i) ≡ true
  unfolding component
  component_accepted e = intersection_accepted _ (at x i) (w.box_sound.each i) e

  pub ready_put : i < n → is_empty (component sum (system n m r) x i) ≡ false → Ready n m r (put x i (component sum (system n m r) x i))
  ready_put h e =
      record {
        few = w.few;
        matrix = w.matrix;
        right = w.right;
        box = length_put x i _ ∙ w.box;
        matrix_sound = w.matrix_sound;
        right_sound = w.right_sound;
        box_sound = sound_put x i _ w.box_sound (omega (arith, w.box)) (component_accepted e);
      }

-- a box that is as long, and of intervals
pub ready_after : {n : ℕ} {m r x y : List ℤ} → Ready n m r x → length y ≡ length x → Sound y → Ready n m r y
ready_after w l h = record { few = w.few; matrix = w.matrix; right = w.right; box = l ∙ w.box; matrix_sound = w.matrix_sound; right_sound = w.right_sound; box_sound = h }

-- a pass over nothing
pub passed_nothing : (s : System) {x : List ℤ} → Sound x → Passed (done x) s.size x (Ok false) x
passed_nothing s {x} h = record { is = refl; flagged = sym (differ_self x s.size 0); sound = h }

-- ---- a pass before the components of a list: the box so far, and whether it differs from the one before the pass
pub record Halfway (s : System) (run : Run (List ℤ)) (is : List ℕ) (x₀ x : List ℤ) (changed : Bool) : Type 0 where
  pub ready : Ready s.size s.matrix s.right x
  pub rest : run ≡ along once s is x
  pub flag : changed ≡ differ x₀ x s.size 0
  pub inside : (j : ℕ) → Contains (at x₀ j) (at x j)

pub halfway_start : (w : Way) (s : System) {x : List ℤ} {k : ℕ} → k ≡ 0 → Ready s.size s.matrix s.right x → Halfway s (pass (Some w) s x) (up (s.size - k) k ++ back w s.size) x x false
halfway_start w s {x} e r = record { ready = r; rest = rw (e, sub-zero) (pass_along w s x); flag = sym (differ_self x s.size 0); inside = λ j. contains_refl (at x j) }

module _ {s : System} {run : Run (List ℤ)} {x₀ x : List ℤ} {c : Bool} where
  pub passed : {is : List ℕ} → is ≡ [] → Halfway s run is x₀ x c → Passed run s.size x₀ (Ok c) x
  unfolding along
  passed e w = record { is = sym (w.rest ∙ rw e); flagged = w.flag; sound = w.ready.box_sound }

  -- what is left after the way there is all of the way back, from whatever is the number of components
  pub halfway_back : {w : Way} {k : ℕ} → w ≡ ThereAndBack → k ≡ s.size → Halfway s run (back w s.size) x₀ x c → Halfway s run (down k) x₀ x c
  halfway_back e f h = rw f (rw e at h)

  module _ {i : ℕ} {is : List ℕ} {y : List ℤ} (w : Halfway s run (i ∷ is) x₀ x c) where
    pub passed_stop : {r : Result Bool Refusal} {o : Refusal} → r ≡ Err o → Narrowed s i x (Err o) y → Passed run s.size x₀ r y
    unfolding along
    passed_stop e h =
        rw (e, h.2)
        (record { is = sym (w.rest ∙ rw (h.0, ← h.1)); flagged = tt; sound = w.ready.box_sound })

    pub halfway_go : {t : Bool} → i < s.size → Narrowed s i x (Ok t) y → Halfway s run is x₀ y (c || t)
    unfolding along
    halfway_go l h =
        let v : Interval = component once s x i in
        let room : 2 * i + 1 < length x = omega (arith, w.ready.box) in
        let narrower : Contains (at x i) v = component_narrows once s x i in
        rw (h.2, h.1, w.flag)
        (record {
          ready = ready_put once w.ready i l h.0;
          rest = w.rest ∙ rw h.0;
          flag = sym (differ_put x₀ x i v room (w.inside i) narrower s.size 0 (omega arith) (omega arith));
          inside = λ j. contains_trans (w.inside j) (put_narrows x i v room narrower j);
        })
