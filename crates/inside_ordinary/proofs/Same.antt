-- Where both calls settle, they settle at the same box: what one of them leaves as it is the other does too.
use mathlib.Core.Path.{◌≡◌, refl, sym, ap, subst, ◌∙◌}
use mathlib.Core.Bool.{Bool, true, false, cond}
use mathlib.Core.List.{List, ◌∷◌, ◌++◌}
use Prim.Native.Nat.{ℕ, zero, suc, ◌+◌, ◌≤◌, ◌<◌}
use native.Mathlib.Omega.{arith}
use native.Mathlib.Decide.{ℕ_discrete}
use lib.Dec.{eqb}
use lib.IntN.{ℤ}
use Rattle.integer.proofs.Order.{antisym}
use Rattle.outcome.specs.declared.Refusal.TheVariants as refusal
use Rattle.outcome.specs.Table.{number_and_place}
use Rattle.outcome.specs.Run.{Run, refused, done, and_then, ended}
use Rattle.outcome.proofs.Run.{never, joined}
use Rattle.interval.specs.Interval.{is_empty}
use Rattle.interval.proofs.Range.{same_ends}
use Rattle.inputs.specs.Tests.{Test}
use Rattle.std.specs.Prelude.{Ok, Err}
use Rattle.inputs.specs.Place.{at, put}
use Rattle.inputs.specs.Tests as tests
use Rattle.inputs.proofs.Early.{Early, early_number}
use Rattle.inputs.specs.System.{System}
use Rattle.inputs.proofs.Place.{numbers_is}
use Rattle.rows.specs.Sum.{once}
use Rattle.sweep.specs.Pass.{component, along, up, down, sweep, symmetric, differ}
use Rattle.sweep.specs.Call.{Log, settled, after, sweeps, ending, last, concluded, tests}
use Rattle.sweep.specs.Calls.{run_by, returned_by}
use Rattle.sweep.specs.Code.{Ready}
use Rattle.sweep.proofs.Tests.{ready}
use Rattle.sweep.proofs.Kept.{early_tests}
use Rattle.sweep.proofs.Turns.{Below, up_below, sweep_below, symmetric_below, down_below, symmetric_along}
use Rattle.inside_former.proofs.Inner.{Inner, narrowed_refl, OnPasses, same_box}
use Rattle.inside_former.proofs.Pass.{once_once, sweep_inner, symmetric_inner}
use Rattle.inside_former.proofs.After.{stands, sweeps_inner}
use Rattle.inside_ordinary.specs.Passes.{SameSettled}
use Rattle.inside_ordinary.proofs.Pass.{put_inner, further}

-- a box lies inside itself
itself : {n : ℕ} {X Y : List ℤ} → Inner n X Y → Inner n Y Y
itself {n} {Y = Y} h = record { former = h.new; new = h.new; former_sound = h.new_sound; new_sound = h.new_sound; inside = narrowed_refl n Y }

-- two boxes, each inside the other
both_ways : {n : ℕ} {X Y : List ℤ} → Inner n X Y → Inner n Y X → X ≡ Y
both_ways {n} {X} {Y} h k = numbers_is (at Y) n X h.former same ∙ sym (numbers_is (at Y) n Y h.new (λ p l. refl))
  where
    same : (p : ℕ) → p < n → at X p ≡ at Y p
    same p l =
        let u = h.inside.each p l in
        let v = k.inside.each p l in
        same_ends _ _ (antisym _ _ u.low v.low) (antisym _ _ v.high u.high)

-- ---- sweeps that settle leave a box that one more pass leaves as it is
module _ (n : ℕ) (p : List ℤ → Run (List ℤ)) (beside : (X Y : List ℤ) → Inner n X Y → OnPasses n (p X) (p Y)) where
  settled_stands : (k : ℕ) (X lent : List ℤ) → Inner n X X → (number_and_place (ending (sweeps n p k X))).number ≡ 0
      → p (last (sweeps n p k X) lent X) ≡ done (last (sweeps n p k X) lent X)
  unfolding sweeps
  settled_stands zero X lent h e = absurd (omega (arith, e))
  settled_stands (suc k) X lent h e = go (p X) refl (beside X X h) e (λ Y. settled_stands k Y lent)
    where
      -- what is shown of the sweeps that are left
      Rest : List ℤ → Type 0
      Rest Y = Inner n Y Y → (number_and_place (ending (sweeps n p k Y))).number ≡ 0 → p (last (sweeps n p k Y) lent Y) ≡ done (last (sweeps n p k Y) lent Y)

      pick : (b : Bool) (Y : List ℤ) → differ X Y n 0 ≡ b → p X ≡ done Y → Inner n Y Y → (number_and_place (ending (cond b (sweeps n p k Y) settled))).number ≡ 0 → Rest Y
          → p (last (cond b (sweeps n p k Y) settled) lent Y) ≡ done (last (cond b (sweeps n p k Y) settled) lent Y)
      pick true Y f u c e ih = ih c e
      pick false Y f u c e ih = ap p (sym (same_box n h.former c.former f)) ∙ u

      go : (r : Run (List ℤ)) → p X ≡ r → OnPasses n r r → (number_and_place (ending (after n X r (λ Y. sweeps n p k Y)))).number ≡ 0 → ((Y : List ℤ) → Rest Y)
          → p (last (after n X r (λ Y. sweeps n p k Y)) lent X) ≡ done (last (after n X r (λ Y. sweeps n p k Y)) lent X)
      go (refused o) u c e ih = absurd (omega (arith, e, c))
      go (done Y) u c e ih = pick (differ X Y n 0) Y refl u c e (ih Y)

-- ---- the system has passed its tests, with some box
module _ (s : System) (Z : List ℤ) (tested : Ready s.size s.matrix s.right Z) where
  abbrev n : ℕ
  n = s.size

  -- component i of X is what X has there
  record Stands (X : List ℤ) (i : ℕ) : Type 0 where
    some : is_empty (component once s X i) ≡ false
    box : put X i (component once s X i) ≡ X

  one_stands : {X : List ℤ} → Inner n X X → (i : ℕ) (is : List ℕ) → i < n → Below n is → along once s (i ∷ is) X ≡ done X → Stands X i × (along once s is X ≡ done X)
  unfolding along
  one_stands {X} h i is l b = go (is_empty (component once s X i)) refl
    where
      go : (t : Bool) → is_empty (component once s X i) ≡ t
          → cond t (refused (refusal.Empty (i + 1))) (along once s is (put X i (component once s X i))) ≡ done X → Stands X i × (along once s is X ≡ done X)
      go true f e = never e
      go false f e =
          let u = put_inner s Z tested h i l f in
          let v = both_ways u (subst (OnPasses n (done (put X i (component once s X i)))) e (further s Z tested is b (itself u))) in
          (record { some = f; box = sym v }, subst (λ Y. along once s is Y ≡ done X) (sym v) e)

  up_stands : {X : List ℤ} → Inner n X X → (d i : ℕ) → i + d ≤ n → along once s (up d i) X ≡ done X → (j : ℕ) → i ≤ j → j < i + d → Stands X j
  unfolding up
  up_stands h zero i l e j a b = absurd (omega arith)
  up_stands {X} h (suc d) i l e j a b = go (ℕ_discrete j i) (one_stands h i (up d (i + 1)) (omega arith) (up_below n d (i + 1) (omega arith)) e) (up_stands h d (i + 1) (omega arith))
    where
      go : Dec (j ≡ i) → Stands X i × (along once s (up d (i + 1)) X ≡ done X) → (along once s (up d (i + 1)) X ≡ done X → (j : ℕ) → i + 1 ≤ j → j < i + 1 + d → Stands X j) → Stands X j
      go (yes f) w ih = rw f w.0
      go (no f) w ih = ih w.1 j (omega (arith, f)) (omega arith)

  down_stands : {X : List ℤ} (i : ℕ) → ((j : ℕ) → j < i → Stands X j) → along once s (down i) X ≡ done X
  unfolding down along
  down_stands zero w = refl
  down_stands {X} (suc i) w = rw ((w i (omega arith)).some, (w i (omega arith)).box) (down_stands i (λ j l. w j (omega arith)))

  sweep_to_symmetric : {X : List ℤ} → Inner n X X → sweep once s X ≡ done X → symmetric once s X ≡ done X
  unfolding symmetric sweep and_then
  sweep_to_symmetric {X} h e = rw e (down_stands n (λ j l. up_stands h n 0 (omega arith) e j (omega arith) (omega arith)))

  symmetric_to_sweep : {X : List ℤ} → Inner n X X → symmetric once s X ≡ done X → sweep once s X ≡ done X
  unfolding symmetric sweep
  symmetric_to_sweep {X} h e =
      let j = joined _ _ X e in
      let there = subst (OnPasses n (done X)) j.first (further s Z tested (up n 0) (sweep_below n) h) in
      let back = subst (OnPasses n (done j.mid)) j.rest (further s Z tested (down n) (down_below n n (omega arith)) (itself there)) in
      j.first ∙ ap done (sym (both_ways there back))

  -- ---- sweeps by a pass that only narrows, and keeps boxes one inside the other
  module _ (p : List ℤ → Run (List ℤ)) (narrows : (X Y : List ℤ) → Inner n X Y → OnPasses n (done X) (p Y))
      (beside : (X Y : List ℤ) → Inner n X Y → OnPasses n (p X) (p Y)) where
    -- stay inside their start
    stay_inside : (k : ℕ) (X : List ℤ) → Inner n X X → (number_and_place (ending (sweeps n p k X))).number ≡ 0 → Inner n X (last (sweeps n p k X) X X)
    stay_inside k X h e =
        subst (λ W. Inner n W (last (sweeps n p k X) X X)) (sym ((stands n (λ W. done W) k X refl).left X))
        ((sweeps_inner n (λ W. done W) p narrows k X X h (ap (λ m. eqb m 7) e)).lefts X X)

    -- and stay round a box that a pass leaves as it is
    stay_round : (k : ℕ) (X Y : List ℤ) → Inner n X Y → p Y ≡ done Y → Inner n (last (sweeps n p k X) X X) Y
    stay_round k X Y h e =
        let a = stands n p k Y e in
        subst (λ W. Inner n (last (sweeps n p k X) X X) W) (sym (a.left X)) ((sweeps_inner n p p beside k X Y h (sym a.emptied)).lefts X X)

  sweep_narrows : (X Y : List ℤ) → Inner n X Y → OnPasses n (done X) (sweep once s Y)
  unfolding sweep
  sweep_narrows X Y h = further s Z tested (up n 0) (sweep_below n) h

  symmetric_narrows : (X Y : List ℤ) → Inner n X Y → OnPasses n (done X) (symmetric once s Y)
  symmetric_narrows X Y h = rw (symmetric_along once s Y) (further s Z tested (up n 0 ++ down n) (symmetric_below n) h)

  same_last : (k j : ℕ) (X : List ℤ) → Inner n X X → (number_and_place (ending (sweeps n (sweep once s) k X))).number ≡ 0
      → (number_and_place (ending (sweeps n (symmetric once s) j X))).number ≡ 0 → last (sweeps n (sweep once s) k X) X X ≡ last (sweeps n (symmetric once s) j X) X X
  same_last k j X h e f =
      let sweep-beside = sweep_inner once_once s Z tested in
      let symmetric-beside = symmetric_inner once_once s Z tested in
      let o = stay_inside (sweep once s) sweep_narrows sweep-beside k X h e in
      let y = stay_inside (symmetric once s) symmetric_narrows symmetric-beside j X h f in
      both_ways
      (stay_round (sweep once s) sweep_narrows sweep-beside k X _ y (symmetric_to_sweep (itself y) (settled_stands n (symmetric once s) symmetric-beside j X X h f)))
      (stay_round (symmetric once s) symmetric_narrows symmetric-beside j X _ o (sweep_to_symmetric (itself o) (settled_stands n (sweep once s) sweep-beside k X X h e)))

-- ---- the calls: 0 comes from no test
pub same_settled : SameSettled
unfolding returned_by run_by tests.tested ended
same_settled s k j X = go (tests s k X) refl (early_tests s k X) (tests s j X) refl (early_tests s j X)
  where
    n : ℕ
    n = s.size

    a : Log
    a = sweeps n (sweep once s) k X

    b : Log
    b = sweeps n (symmetric once s) j X

    go : (t : Test) → tests s k X ≡ t → Early t → (u : Test) → tests s j X ≡ u → Early u
        → (ended (concluded X) X (tests.tested t (done a))).number ≡ 0 → (ended (concluded X) X (tests.tested u (done b))).number ≡ 0
        → (ended (concluded X) X (tests.tested t (done a))).left ≡ (ended (concluded X) X (tests.tested u (done b))).left
    go (Err o) f h u g i c d = absurd (omega (arith, early_number h refl, c))
    go (Ok _) f h (Err o) g i c d = absurd (omega (arith, early_number i refl, d))
    go (Ok _) f h (Ok _) g i c d =
        let w = ready s k X f in
        same_last s X w k j X (record { former = w.box; new = w.box; former_sound = w.box_sound; new_sound = w.box_sound; inside = narrowed_refl n X }) c d
