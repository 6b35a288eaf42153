-- A half pass, in turn or out of turn.
use mathlib.Core.Path.{◌≡◌, refl, ◌∙◌}
use mathlib.Core.Bool.{Bool, true, false, not}
use mathlib.Core.List.{List}
use borrow.Author.Tests.{eq-eqb}
use lib.Dec.{eqb}
use lib.IntN.{ℤ}
use Rattle.outcome.specs.Run.{Run, refused, done, and_then}
use Rattle.inputs.specs.Tests.{both, proper}
use Rattle.inputs.specs.System.{System}
use Rattle.rows.specs.Sum.{once}
use Rattle.sweep.specs.Pass.{along}
use Rattle.half_rows.specs.Rows.{of_state, Worked, components, half_along}
use Rattle.half_rows.specs.State.{size_of, sums_of, due}
use Rattle.half_rows.specs.Operations.{passed, pass_of, pass_run}
use Rattle.half_rows_afresh.specs.Afresh.{held, held_in, afresh_pass}
use Rattle.half_rows_afresh.proofs.Half.{sound_proper, Agrees, half_agrees}
use Rattle.half_rows_afresh.proofs.State.{length_sums}
use Rattle.half_rows_afresh.proofs.Loaded.{Loaded, Good, blank, full, nothing_in, not_nought, loaded_in, turned_loaded}
use Rattle.half_rows_afresh.proofs.Does.{Does, does_loaded}

-- the turn that is due, and the other one
due_same : (back : Bool) → eqb (due (not (not back))) (due back) ≡ true
unfolding due
due_same true = refl
due_same false = refl

module _ (back : Bool) {t : List ℤ} {s : System} {X K : List ℤ} (w : Loaded t s (not back) X K) where
  -- the state passes its own tests
  pass_of_lem : pass_of back t s.size ≡ half_along back s K (components back s.size) X (sums_of back t s.size)
  unfolding pass_of of_state both
  pass_of_lem =
      (λ i. of_state (both (proper (w.box i) s.size 0 0) (proper (w.system i).right s.size 0 0))
      (half_along back (w.system i) (w.sums i) (components back s.size) (w.box i) (sums_of back t s.size)))
      ∙ rw (sound_proper X w.ready.box_sound s.size 0 0, sound_proper s.right w.ready.right_sound s.size 0 0)

  in_turn : Does (pass_run back t) (and_then (along once s (components back s.size) X) (λ Y. done (held s (not back) Y)))
  unfolding pass_run and_then passed
  in_turn =
      rw (not_nought w, w.turn, due_same back, w.size, pass_of_lem)
      (go (half_along back s K (components back s.size) X (sums_of back t s.size)) (along once s (components back s.size) X)
      (half_agrees back s K X (sums_of back t s.size) w.ready (length_sums back t s.size w.long w.ready.few) w.kept))
    where
      go : (r : Run Worked) (q : Run (List ℤ)) → Agrees back s r q → Does (and_then r (λ v. done (passed back t v))) (and_then q (λ Y. done (held s (not back) Y)))
      go (refused o) q e = rw e
      go (done v) q e =
          rw e.0
          (does_loaded (turned_loaded t s back v.box v.sums w.long w.some w.size w.system e.1.ready e.1.kept))

out_of_turn : (back : Bool) {t : List ℤ} {s : System} {X K : List ℤ} → Loaded t s back X K → Does (pass_run back t) (afresh_pass back (held s (not back) X))
unfolding pass_run afresh_pass due
out_of_turn true w = rw (not_nought w, w.turn)
out_of_turn false w = rw (not_nought w, w.turn)

pub pass_does : (back : Bool) (t : List ℤ) → Good t → Does (pass_run back t) (afresh_pass back (held_in t))
unfolding pass_run afresh_pass
pass_does back t (blank l e) = rw (nothing_in t e, eq-eqb (size_of t) 0 e)
pass_does true t (full s true X K w) = rw (loaded_in w) (out_of_turn true w)
pass_does true t (full s false X K w) = rw (loaded_in w) (in_turn true w)
pass_does false t (full s true X K w) = rw (loaded_in w) (in_turn false w)
pass_does false t (full s false X K w) = rw (loaded_in w) (out_of_turn false w)
