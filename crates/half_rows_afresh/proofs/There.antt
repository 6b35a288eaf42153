-- From a load, half passes up and down are the passes there and back.
use mathlib.Core.Path.{◌≡◌, refl, sym, ap, ◌∙◌}
use mathlib.Core.Bool.{true, false}
use mathlib.Core.List.{List, [], ◌∷◌, ◌++◌, append-nil}
use Prim.Native.Nat.{ℕ, zero, suc}
use lib.IntN.{ℤ}
use lib.ListN.{length}
use Rattle.std.specs.Prelude.{Ok, Err}
use Rattle.outcome.specs.Run.{Run, refused, done, and_then}
use Rattle.inputs.specs.Tests.{Test, tested}
use Rattle.inputs.specs.System.{System}
use Rattle.rows.specs.Sum.{once}
use Rattle.sweep.specs.Pass.{along, up, down, sweep, symmetric}
use Rattle.sweep.specs.Call.{tests}
use Rattle.half_rows.specs.Rows.{components}
use Rattle.half_rows.specs.State.{state_length}
use Rattle.half_rows.specs.Operations.{Operation, load, half_pass, load_run, run}
use Rattle.half_rows_afresh.specs.Afresh.{Held, held, held_in, afresh_pass, afresh}
use Rattle.half_rows_afresh.specs.Claim.{box_in, run_all, halves, passes, ThereAndBack}
use Rattle.half_rows_afresh.proofs.Loaded.{Good}
use Rattle.half_rows_afresh.proofs.Does.{Does, load_does}
use Rattle.half_rows_afresh.proofs.Runs.{run_does}
use Rattle.half_rows_afresh.proofs.Box.{box_held, box_held_lem}

-- ---- several operations, if nothing were kept
all_afresh : List Operation → Held → Run Held
all_afresh [] h = done h
all_afresh (o ∷ os) h = and_then (afresh o h) (λ k. all_afresh os k)

then_does : (os : List Operation) → ((u : List ℤ) → Good u → Does (run_all os u) (all_afresh os (held_in u)))
    → (r : Run (List ℤ)) (q : Run Held) → Does r q → Does (and_then r (λ u. run_all os u)) (and_then q (λ h. all_afresh os h))
unfolding and_then
then_does os f (refused o) q d = rw d
then_does os f (done u) q d = rw d.0 (f u d.1)

all_does : (os : List Operation) (t : List ℤ) → Good t → Does (run_all os t) (all_afresh os (held_in t))
unfolding run_all all_afresh
all_does [] t g = (refl, g)
all_does (o ∷ os) t g = then_does os (all_does os) (run o t) (afresh o (held_in t)) (run_does o t g)

boxes : (r : Run (List ℤ)) (q : Run Held) → Does r q → and_then r (λ u. done (box_in u)) ≡ and_then q (λ h. done (box_held h))
unfolding and_then
boxes (refused o) q d = rw d
boxes (done u) q d = rw d.0 (ap done (box_held_lem u))

-- ---- half passes on what is held
halves_held : (s : System) (os : List Operation) (k : ℕ) (X : List ℤ)
    → all_afresh (halves k ++ os) (held s false X) ≡ and_then (passes s k X) (λ Y. all_afresh os (held s false Y))
unfolding all_afresh halves passes afresh afresh_pass and_then symmetric sweep components
halves_held s os zero X = refl
halves_held s os (suc k) X = there (along once s (up s.size 0) X) (halves_held s os k)
  where
    Rest : List ℤ → Type 0
    Rest Z = all_afresh (halves k ++ os) (held s false Z) ≡ and_then (passes s k Z) (λ Y. all_afresh os (held s false Y))

    back : (r : Run (List ℤ)) → ((Z : List ℤ) → Rest Z)
        → and_then (and_then r (λ Z. done (held s false Z))) (λ h. all_afresh (halves k ++ os) h) ≡
        and_then (and_then r (λ Z. passes s k Z)) (λ Z. all_afresh os (held s false Z))
    back (refused o) f = refl
    back (done Z) f = f Z

    there : (r : Run (List ℤ)) → ((Z : List ℤ) → Rest Z)
        → and_then (and_then r (λ Y. done (held s true Y))) (λ h. and_then (afresh_pass true h) (λ g. all_afresh (halves k ++ os) g)) ≡
        and_then (and_then (and_then r (λ Y. along once s (down s.size) Y)) (λ Y. passes s k Y)) (λ Z. all_afresh os (held s false Z))
    there (refused o) f = refl
    there (done Y) f = back (along once s (down s.size) Y) f

-- ---- from a load
from_load : (s : System) (X t : List ℤ) (os : List Operation) → length t ≡ state_length
    → and_then (run_all (load s X ∷ os) t) (λ u. done (box_in u)) ≡
    tested (tests s 1 X) (and_then (all_afresh os (held s false X)) (λ h. done (box_held h)))
unfolding run_all run tested and_then
from_load s X t os l =
    boxes (and_then (load_run s X t) (λ u. run_all os u)) (and_then held_first (λ h. all_afresh os h))
    (then_does os (all_does os) (load_run s X t) held_first (load_does s X t l)) ∙ go (tests s 1 X)
  where
    held_first : Run Held
    held_first = tested (tests s 1 X) (done (held s false X))

    go : (e : Test) → and_then (and_then (tested e (done (held s false X))) (λ h. all_afresh os h)) (λ h. done (box_held h)) ≡
        tested e (and_then (all_afresh os (held s false X)) (λ h. done (box_held h)))
    go (Ok _) = refl
    go (Err o) = refl

held_back : (s : System) (r : Run (List ℤ)) → and_then (and_then r (λ Y. all_afresh [] (held s false Y))) (λ h. done (box_held h)) ≡ r
unfolding and_then all_afresh
held_back s (refused o) = refl
held_back s (done Y) = refl

held_there : (s : System) (r : Run (List ℤ))
    → and_then (and_then r (λ Y. all_afresh (half_pass false ∷ []) (held s false Y))) (λ h. done (box_held h)) ≡ and_then r (λ Y. sweep once s Y)
unfolding and_then all_afresh afresh afresh_pass components sweep
held_there s (refused o) = refl
held_there s (done Y) = go (along once s (up s.size 0) Y)
  where
    go : (r : Run (List ℤ)) → and_then (and_then (and_then r (λ Z. done (held s true Z))) (λ h. done h)) (λ h. done (box_held h)) ≡ r
    go (refused o) = refl
    go (done Z) = refl

up_and_down : (s : System) (k : ℕ) (X : List ℤ) → and_then (all_afresh (halves k) (held s false X)) (λ h. done (box_held h)) ≡ passes s k X
up_and_down s k X =
    ap (λ os. and_then (all_afresh os (held s false X)) (λ h. done (box_held h))) (sym (append-nil (halves k)))
    ∙ ap (λ r. and_then r (λ h. done (box_held h))) (halves_held s [] k X) ∙ held_back s (passes s k X)

pub there_and_back : ThereAndBack
there_and_back =
    record {
      back = λ s X t k l. from_load s X t (halves k) l ∙ ap (tested (tests s 1 X)) (up_and_down s k X);
      there = λ s X t k l.
          from_load s X t (halves k ++ (half_pass false ∷ [])) l
          ∙ ap (λ r. tested (tests s 1 X) (and_then r (λ h. done (box_held h)))) (halves_held s (half_pass false ∷ []) k X)
          ∙ ap (tested (tests s 1 X)) (held_there s (passes s k X));
    }
