-- Calls, and lists of calls, made of passes that keep every solution.
use mathlib.Core.Path.{◌≡◌, refl, ◌∙◌, subst}
use mathlib.Core.Bool.{Bool, true, false, cond, ◌||◌}
use mathlib.Core.List.{List, [], ◌∷◌, ◌++◌}
use Prim.Native.Nat.{ℕ, zero, suc, ◌*◌}
use lib.Dec.{T, eqb}
use lib.IntN.{ℤ}
use lib.ListN.{length}
use Rattle.outcome.specs.Table.{number_and_place}
use Rattle.outcome.specs.Run.{Run, refused, done, ended}
use Rattle.interval.proofs.Range.{is_sound}
use Rattle.inputs.specs.Tests.{Test}
use Rattle.std.specs.Prelude.{Ok, Err}
use Rattle.inputs.specs.Place.{at}
use Rattle.inputs.specs.Tests.{tested}
use Rattle.inputs.specs.System.{System}
use Rattle.rows.specs.Sum.{once}
use Rattle.rows.proofs.Encloses.{once_encloses}
use Rattle.sweep.specs.Pass.{differ}
use Rattle.sweep.specs.Call.{Log, stopped, settled, spent, swept, after, sweeps, ending, last, concluded, tests}
use Rattle.sweep.specs.Calls.{Call, sweep_call, symmetric_call, run_by, run, returned_by, call, Change, sweep_changes, sweeps_of, changes_by, changes, any_empty_by, any_empty}
use Rattle.sweep.proofs.Tests as sweep
use Rattle.sweep.proofs.Kept.{refused_not_empty}
use Rattle.accuracy.specs.Claim.{Every}
use Rattle.accuracy.proofs.Follows.{Ordered, Follows, follows_refl, follows_trans, NoSolution, earlier, OnPass, Faithful}
use Rattle.accuracy.proofs.Sweep.{sweep_faithful, symmetric_faithful}

every_append : (P : Change → Type 0) (l r : List Change) → Every P l → Every P r → Every P (l ++ r)
every_append P [] r h k = k
every_append P (c ∷ l) r h k = (h.0, every_append P l r h.1 k)

pub every_map : {P Q : Change → Type 0} → ((c : Change) → P c → Q c) → (l : List Change) → Every P l → Every Q l
every_map f [] h = tt
every_map f (c ∷ l) h = (f c h.0, every_map f l h.1)

either : {P : Type 0} (a b : Bool) → T (a || b) → (T a → P) → (T b → P) → P
either true b e f g = f tt
either false b e f g = g e

-- ---- what a call's tests say of its box
record Ready (s : System) (X : List ℤ) : Type 0 where
  fitting : length X ≡ 2 * s.size
  ordered : Ordered s.size X

ready : (s : System) (k : ℕ) (X : List ℤ) → tests s k X ≡ Ok tt → Ready s X
ready s k X e =
    let w = sweep.ready s k X e in
    record { fitting = w.box; ordered = record { each = λ j h. (is_sound (at X j) (w.box_sound.each j)).order } }

module _ (s : System) where
  -- ---- the sweeps of one call, from the box X
  abbrev pub OnLog : List ℤ → Log → Type 0
  OnLog X (stopped o) = NoSolution s X
  OnLog X settled = Unit {0}
  OnLog X spent = Unit {0}
  OnLog X (swept Y l) = Follows s X Y × OnLog Y l

  on_sweeps : {p : List ℤ → Run (List ℤ)} → Faithful s p → (n d : ℕ) (X : List ℤ) → length X ≡ 2 * s.size → OnLog X (sweeps n p d X)
  unfolding sweeps
  on_sweeps h n zero X l = tt
  on_sweeps {p} h n (suc d) X l = go (p X) (h.each X l) (on_sweeps h n d)
    where
      pick : (b : Bool) (Y : List ℤ) → OnLog Y (sweeps n p d Y) → OnLog Y (cond b (sweeps n p d Y) settled)
      pick true Y g = g
      pick false Y g = tt

      go : (r : Run (List ℤ)) → OnPass s X r → ((Y : List ℤ) → length Y ≡ 2 * s.size → OnLog Y (sweeps n p d Y)) → OnLog X (after n X r (λ Y. sweeps n p d Y))
      go (refused o) f g = f
      go (done Y) f g = (f, pick (differ X Y n 0) Y (g Y (f.as_long ∙ l)))

  -- ---- one call: where it runs, its tests passed, and where it does not, it does not say 7
  abbrev pub OnRun : List ℤ → Run Log → Type 0
  OnRun X (refused o) = eqb (number_and_place (Err o)).number 7 ≡ false
  OnRun X (done l) = Ordered s.size X × OnLog X l

  on_call : {p : List ℤ → Run (List ℤ)} → Faithful s p → (k : ℕ) (X : List ℤ) → OnRun X (tested (tests s k X) (done (sweeps s.size p k X)))
  unfolding tested
  on_call {p} h k X = go (tests s k X) refl
    where
      go : (t : Test) → tests s k X ≡ t → OnRun X (tested t (done (sweeps s.size p k X)))
      go (Ok _) e = let r = ready s k X e in (r.ordered, on_sweeps h s.size k X r.fitting)
      go (Err o) e = refused_not_empty s k X e

  pub on_run : (c : Call) (X : List ℤ) → OnRun X (run s c X)
  unfolding run_by
  on_run (sweep_call k) X = on_call (sweep_faithful once once_encloses s) k X
  on_run (symmetric_call k) X = on_call (symmetric_faithful once once_encloses s) k X

  -- ---- the boxes of a list that began with X₀: each follows from X₀ and from the one before it
  pub record Fine (X₀ : List ℤ) (c : Change) : Type 0 where
    pub since_start : Follows s X₀ c.after
    pub this_step : Follows s c.before c.after

  log_changes : {X₀ X : List ℤ} (l : Log) → Follows s X₀ X → OnLog X l → Every (Fine X₀) (sweep_changes l X)
  log_changes (stopped o) f h = tt
  log_changes settled f h = tt
  log_changes spent f h = tt
  log_changes (swept Y l) f h = let g = follows_trans s f h.0 in (record { since_start = g; this_step = h.0 }, log_changes l g h.1)

  log_last : {lent X : List ℤ} (l : Log) → Follows s lent X → OnLog X l → Follows s lent (last l lent X)
  log_last {lent} (stopped o) f h = follows_refl s lent
  log_last settled f h = f
  log_last spent f h = f
  log_last (swept Y l) f h = log_last l (follows_trans s f h.0) h.1

  log_empty : {X₀ X : List ℤ} (l : Log) → Follows s X₀ X → OnLog X l → T (eqb (number_and_place (ending l)).number 7) → NoSolution s X₀
  log_empty (stopped o) f h e = earlier s f h
  log_empty settled f h e = absurd e
  log_empty spent f h e = absurd e
  log_empty (swept Y l) f h e = log_empty l (follows_trans s f h.0) h.1 e

  run_changes : {X₀ X : List ℤ} (a : Run Log) → Follows s X₀ X → OnRun X a → Every (Fine X₀) (sweeps_of a X)
  run_changes (refused o) f h = tt
  run_changes (done l) f h = log_changes l f h.1

  -- ---- what a call leaves, and what it says
  call_follows : (c : Call) (X : List ℤ) → Follows s X (call s c X).left
  unfolding returned_by ended
  call_follows c X = go (run s c X) (on_run c X)
    where
      go : (a : Run Log) → OnRun X a → Follows s X (ended (concluded X) X a).left
      go (refused o) h = follows_refl s X
      go (done l) h = log_last l (follows_refl s X) h.1

  call_empty : {X₀ : List ℤ} (c : Call) (X : List ℤ) → Follows s X₀ X → T (eqb (call s c X).number 7) → NoSolution s X₀
  unfolding returned_by ended
  call_empty {X₀} c X f = go (run s c X) (on_run c X)
    where
      go : (a : Run Log) → OnRun X a → T (eqb (ended (concluded X) X a).number 7) → NoSolution s X₀
      go (refused o) h e = absurd (subst T h e)
      go (done l) h e = log_empty l f h.1 e

  -- ---- a list of calls, from any box that follows X₀
  pub list_changes : (cs : List Call) {X₀ X : List ℤ} → Follows s X₀ X → Every (Fine X₀) (changes s cs X)
  unfolding changes_by
  list_changes [] f = tt
  list_changes (c ∷ cs) {X₀} {X} f =
      let g = call_follows c X in
      let k = follows_trans s f g in
      every_append (Fine X₀) (sweeps_of (run s c X) X) _ (run_changes (run s c X) f (on_run c X)) (record { since_start = k; this_step = g }, list_changes cs k)

  pub list_empty : (cs : List Call) {X₀ X : List ℤ} → Follows s X₀ X → T (any_empty s cs X) → NoSolution s X₀
  unfolding any_empty_by
  list_empty [] f e = absurd e
  list_empty (c ∷ cs) {X₀} {X} f e = either (eqb (call s c X).number 7) _ e (call_empty c X f) (list_empty cs (follows_trans s f (call_follows c X)))
