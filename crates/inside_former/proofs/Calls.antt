-- Calls, and lists of calls, from two boxes of which the new one lies inside the former.
use mathlib.Core.Path.{◌≡◌, refl, subst}
use mathlib.Core.Bool.{false}
use mathlib.Core.List.{List, [], ◌∷◌}
use Prim.Native.Nat.{ℕ, zero, suc, ◌+◌}
use lib.Dec.{eqb}
use lib.IntN.{ℤ}
use Rattle.outcome.specs.Run.{Run, done, ended}
use Rattle.inputs.specs.Tests.{Test}
use Rattle.std.specs.Prelude.{Ok, Err}
use Rattle.inputs.specs.Code.{Sound}
use Rattle.inputs.specs.Tests.{both, need, proper, all_proper, tested}
use Rattle.inputs.specs.System.{System}
use Rattle.rows.specs.Sum.{singly, once}
use Rattle.sweep.specs.Pass.{sweep, symmetric}
use Rattle.sweep.specs.Call.{Log, sweeps, concluded, tests}
use Rattle.sweep.specs.Calls.{Call, sweep_call, symmetric_call, run_by, call_by, returned_by, any_empty_by}
use Rattle.sweep.specs.Code.{Ready}
use Rattle.sweep.proofs.Tests.{ready}
use Rattle.sweep.proofs.Kept.{refused_not_empty}
use Rattle.accuracy.specs.Claim.{Narrowed}
use Rattle.inside_former.specs.Sweeps.{box_of, box_in, Inside}
use Rattle.interval.proofs.Range.{or_neither}
use Rattle.inside_former.proofs.Inner.{Inner, narrowed_refl, OnPasses}
use Rattle.inside_former.proofs.Pass.{singly_once, sweep_inner, symmetric_inner}
use Rattle.inside_former.proofs.After.{sweeps_inner}

-- what is carried from call to call: a lent box may be one that no call accepts, but then it is the same box
pub data Carried (n : ℕ) (X Y : List ℤ) : Type 0 where
  same : X ≡ Y → Carried n X Y
  inner : Inner n X Y → Carried n X Y

pub narrowed : {n : ℕ} {X Y : List ℤ} → Carried n X Y → Narrowed n X Y
narrowed {n} {X} (same e) = subst (λ Y. Narrowed n X Y) e (narrowed_refl n X)
narrowed (inner h) = h.inside

-- ---- the tests of a call say the same of both
proper_pass : (t : List ℤ) → Sound t → (d p from : ℕ) → proper t d p from ≡ Ok tt
unfolding proper need both
proper_pass t h zero p from = refl
proper_pass t h (suc d) p from = rw (h.each p) (proper_pass t h d (p + 1) from)

tests_same : (s : System) (k : ℕ) {X Y : List ℤ} → Carried s.size X Y → tests s k Y ≡ tests s k X
unfolding tests all_proper
tests_same s k (same e) = rw e
tests_same s k {X} {Y} (inner h) = rw (h.former, h.new, proper_pass X h.former_sound, proper_pass Y h.new_sound)

-- ---- one call, of two ways to pass
pub record Called (n : ℕ) (r : Run Log) (X : List ℤ) (t : Run Log) (Y : List ℤ) : Type 0 where
  pub not_empty : eqb (ended (concluded X) X r).number 7 ≡ false
  pub boxes : (j : ℕ) → Narrowed n (box_of r j X) (box_of t j Y)
  pub left : Carried n (ended (concluded X) X r).left (ended (concluded Y) Y t).left

module _ (s : System) (p q : List ℤ → Run (List ℤ))
    (beside : (Z : List ℤ) → Ready s.size s.matrix s.right Z → (X Y : List ℤ) → Inner s.size X Y → OnPasses s.size (p X) (q Y)) where
  abbrev n : ℕ
  n = s.size

  pub called : (k : ℕ) (X Y : List ℤ) → Carried n X Y
      → eqb (ended (concluded Y) Y (tested (tests s k Y) (done (sweeps n q k Y)))).number 7 ≡ false
      → Called n (tested (tests s k X) (done (sweeps n p k X))) X (tested (tests s k Y) (done (sweeps n q k Y))) Y
  unfolding tested ended
  called k X Y h = rw (tests_same s k h) (go (tests s k X) refl (λ e. ready s k X e) h)
    where
      as_inner : Ready n s.matrix s.right X → Carried n X Y → Inner n X Y
      as_inner w (same e) =
          subst (λ Y. Inner n X Y) e
          (record { former = w.box; new = w.box; former_sound = w.box_sound; new_sound = w.box_sound; inside = narrowed_refl n X })
      as_inner w (inner h) = h

      go : (t : Test) → tests s k X ≡ t → (tests s k X ≡ Ok tt → Ready n s.matrix s.right X) → Carried n X Y
          → eqb (ended (concluded Y) Y (tested t (done (sweeps n q k Y)))).number 7 ≡ false
          → Called n (tested t (done (sweeps n p k X))) X (tested t (done (sweeps n q k Y))) Y
      go (Err o) f w h e = record { not_empty = refused_not_empty s k X f; boxes = λ j. narrowed h; left = h }
      go (Ok _) f w h e =
          let r = sweeps_inner n p q (beside X (w f)) k X Y (as_inner (w f) h) e in
          record { not_empty = r.not_new; boxes = λ j. (r.boxes j).inside; left = inner (r.lefts X Y) }

-- ---- the calls of the list, and the list
module _ (s : System) where
  list_call : (c : Call) (X Y : List ℤ) → Carried s.size X Y → eqb (call_by once s c Y).number 7 ≡ false → Called s.size (run_by singly s c X) X (run_by once s c Y) Y
  unfolding returned_by run_by
  list_call (sweep_call k) X Y h e = called s (sweep singly s) (sweep once s) (λ Z w. sweep_inner singly_once s Z w) k X Y h e
  list_call (symmetric_call k) X Y h e = called s (symmetric singly s) (symmetric once s) (λ Z w. symmetric_inner singly_once s Z w) k X Y h e

  list_not_empty : (cs : List Call) (X Y : List ℤ) → Carried s.size X Y → any_empty_by (run_by once s) cs Y ≡ false → any_empty_by (run_by singly s) cs X ≡ false
  unfolding any_empty_by returned_by
  list_not_empty [] X Y h e = refl
  list_not_empty (c ∷ cs) X Y h e =
      let a = or_neither (eqb (call_by once s c Y).number 7) _ e in
      let r = list_call c X Y h a.0 in
      rw r.not_empty (list_not_empty cs _ _ r.left a.1)

  list_boxes : (cs : List Call) (X Y : List ℤ) → Carried s.size X Y → any_empty_by (run_by once s) cs Y ≡ false → (i j : ℕ) → Narrowed s.size (box_in singly s cs i j X) (box_in once s cs i j Y)
  unfolding any_empty_by returned_by box_in
  list_boxes [] X Y h e i j = narrowed h
  list_boxes (c ∷ cs) X Y h e zero j = (list_call c X Y h (or_neither _ (any_empty_by (run_by once s) cs _) e).0).boxes j
  list_boxes (c ∷ cs) X Y h e (suc i) j =
      let a = or_neither (eqb (call_by once s c Y).number 7) _ e in
      list_boxes cs _ _ (list_call c X Y h a.0).left a.1 i j

  pub inside : (X Y : List ℤ) → Carried s.size X Y → Inside s X Y
  inside X Y h = record { not_empty = λ cs e. list_not_empty cs X Y h e; boxes = λ cs e i j. list_boxes cs X Y h e i j }
