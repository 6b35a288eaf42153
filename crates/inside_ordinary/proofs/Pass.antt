-- One pass there and back beside one sweep: the way there keeps the boxes one inside the other, and the way back only narrows the inner one.
use mathlib.Core.Path.{◌≡◌, refl, sym, ◌∙◌}
use mathlib.Core.Bool.{Bool, true, false, cond}
use mathlib.Core.List.{List, [], ◌∷◌}
use Prim.Native.Nat.{ℕ, ◌+◌, ◌<◌}
use native.Mathlib.Omega.{arith}
use lib.IntN.{ℤ}
use Rattle.outcome.specs.declared.Refusal.TheVariants as refusal
use Rattle.outcome.specs.Run.{Run, refused, done, and_then}
use Rattle.interval.specs.declared.Interval.{Interval}
use Rattle.interval.specs.Interval.{is_empty}
use Rattle.fraction.proofs.Contains.{contains_trans}
use Rattle.inputs.specs.Place.{put}
use Rattle.inputs.specs.System.{System}
use Rattle.rows.specs.Sum.{once}
use Rattle.sweep.specs.Pass.{component, along, down, sweep, symmetric}
use Rattle.sweep.specs.Code.{Ready}
use Rattle.sweep.proofs.Turns.{Below, down_below}
use Rattle.sweep.proofs.Pass.{component_narrows, put_narrows, ready_put, ready_after}
use Rattle.inside_former.proofs.Inner.{Inner, OnPasses}
use Rattle.inside_former.proofs.Pass.{once_once, sweep_inner}

-- the system has passed its tests, with some box
module _ (s : System) (Z : List ℤ) (tested : Ready s.size s.matrix s.right Z) where
  abbrev n : ℕ
  n = s.size

  pub put_inner : {X Y : List ℤ} → Inner n X Y → (i : ℕ) → i < n → is_empty (component once s Y i) ≡ false → Inner n X (put Y i (component once s Y i))
  put_inner {X} {Y} h i b e =
      let y = ready_put once (ready_after tested (h.new ∙ sym tested.box) h.new_sound) i b e in
      record {
        former = h.former;
        new = y.box;
        former_sound = h.former_sound;
        new_sound = y.box_sound;
        inside = record { each = λ j l. contains_trans (h.inside.each j l) (put_narrows Y i _ (omega (arith, h.new)) (component_narrows once s Y i) j) };
      }

  pub further : (is : List ℕ) → Below n is → {X Y : List ℤ} → Inner n X Y → OnPasses n (done X) (along once s is Y)
  unfolding along
  further [] b h = h
  further (i ∷ is) b {X} {Y} h = go (is_empty v) refl (λ e. further is b.1 (put_inner h i b.0 e))
    where
      v : Interval
      v = component once s Y i

      go : (t : Bool) → is_empty v ≡ t → (is_empty v ≡ false → OnPasses n (done X) (along once s is (put Y i v)))
          → OnPasses n (done X) (cond t (refused (refusal.Empty (i + 1))) (along once s is (put Y i v)))
      go true e k = refl
      go false e k = k e

  pub pass_inner : (X Y : List ℤ) → Inner n X Y → OnPasses n (sweep once s X) (symmetric once s Y)
  unfolding symmetric and_then
  pass_inner X Y h = go (sweep once s X) (sweep once s Y) (sweep_inner once_once s Z tested X Y h)
    where
      go : (r t : Run (List ℤ)) → OnPasses n r t → OnPasses n r (and_then t (λ W. along once s (down n) W))
      go r (refused o) c = c
      go (refused o) (done W) c = absurd c
      go (done U) (done W) c = further (down n) (down_below n n (omega arith)) c
