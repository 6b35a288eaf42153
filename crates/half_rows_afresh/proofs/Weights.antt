-- No true weight is lost, from an accepted load on; and no operation but a load widens a bound.
use mathlib.Core.Path.{◌≡◌, sym, ◌∙◌}
use mathlib.Core.Logic.{◌≢◌}
use mathlib.Core.Bool.{Bool, false}
use mathlib.Core.List.{List, [], ◌∷◌}
use Prim.Native.Nat.{ℕ, ◌*◌}
use native.Mathlib.Omega.{arith}
use lib.IntN.{ℤ}
use lib.ListN.{length}
use Rattle.std.specs.Prelude.{Ok}
use Rattle.outcome.specs.Run.{Run, refused, done, written, ended}
use Rattle.outcome.proofs.Run.{done_same, not_refused}
use Rattle.fraction.specs.Fraction.{Fraction}
use Rattle.fraction.proofs.Contains.{contains_refl}
use Rattle.inputs.specs.Place.{at}
use Rattle.inputs.specs.Tests.{tested}
use Rattle.inputs.specs.System.{System}
use Rattle.sweep.specs.Call.{tests}
use Rattle.sweep.proofs.Tests.{fits}
use Rattle.accuracy.specs.Solution.{Solution, InBox}
use Rattle.accuracy.specs.Claim.{Bounded, Narrowed}
use Rattle.accuracy.proofs.Rule as accuracy
use Rattle.half_rows.specs.State.{state_length, empty, size_of}
use Rattle.half_rows.specs.Operations.{Operation, load, half_pass, narrowing, load_run, run, operate, after}
use Rattle.half_rows_afresh.specs.Afresh.{Held, held, held_in, afresh}
use Rattle.half_rows_afresh.specs.Claim.{box_in, Weighed, AllWeighed, Tightens, NoWeightLost}
use Rattle.half_rows_afresh.proofs.Loaded.{Good, blank, full, loaded_in}
use Rattle.half_rows_afresh.proofs.Does.{Does, empty_good, load_does}
use Rattle.half_rows_afresh.proofs.Runs.{run_does, after_good}
use Rattle.half_rows_afresh.proofs.Box.{box_held_lem}
use Rattle.half_rows_afresh.proofs.Step.{Next, OnStep, afresh_step}

weighed_tightens : (x : ℕ → Fraction) (o : Operation) → Weighed x o → Tightens o
weighed_tightens x (load s X) h = h
weighed_tightens x (half_pass back) h = tt
weighed_tightens x (narrowing vat w) h = tt

-- ---- a state whose box holds a solution of its system
module _ (s : System) (x : ℕ → Fraction) (sol : Solution s x) where
  record Holding (t : List ℤ) : Type 0 where
    good : Good t
    back : Bool
    box : List ℤ
    is : held_in t ≡ held s back box
    long : length box ≡ 2 * s.size
    inside : InBox s.size box x

  -- what is known of the next operation
  step : {t : List ℤ} (h : Holding t) (o : Operation) → Weighed x o → OnStep s o h.box (afresh o (held_in t))
  step h o w = rw h.is (afresh_step s o h.back h.box (weighed_tightens x o w) h.long)

  operate_holding : {t : List ℤ} → Holding t → (o : Operation) → Weighed x o → Holding (operate o t).left
  unfolding operate ended
  operate_holding {t} h o w = go (run o t) (afresh o (held_in t)) (run_does o t h.good) (step h o w)
    where
      next : (u : List ℤ) → Good u → Next s o h.box (held_in u) → Holding u
      next u g n = record { good = g; back = n.back; box = n.box; is = n.is; long = n.as_long ∙ h.long; inside = n.keeps x sol w h.inside }

      go : (r : Run (List ℤ)) (q : Run Held) → Does r q → OnStep s o h.box q → Holding (ended written t r).left
      go (refused p) q d f = h
      go (done u) q d f = next u d.1 (rw d.0 at f)

  not_empty : {t : List ℤ} → Holding t → (o : Operation) → Weighed x o → (operate o t).number ≢ 7
  unfolding operate ended
  not_empty {t} h o w = go (run o t) (afresh o (held_in t)) (run_does o t h.good) (step h o w)
    where
      go : (r : Run (List ℤ)) (q : Run Held) → Does r q → OnStep s o h.box q → (ended written t r).number ≢ 7
      go (refused p) q d f = (rw d at f) x sol w h.inside
      go (done u) q d f = omega arith

  bounded : {t : List ℤ} → Holding t → Bounded s.size (box_in t) x
  bounded {t} h = rw (box_held_lem t, h.is) (accuracy.held h.inside)

  after_holding : (os : List Operation) → AllWeighed x os → {t : List ℤ} → Holding t → Holding (after os t)
  unfolding after
  after_holding [] w h = h
  after_holding (o ∷ os) w h = after_holding os w.1 (operate_holding h o w.0)

  -- ---- after a load
  load_holding : (X t : List ℤ) → length t ≡ state_length → tests s 1 X ≡ Ok tt → InBox s.size X x → Holding (operate (load s X) t).left
  unfolding operate run ended tested
  load_holding X t l e k = go (load_run s X t) (rw e at (load_does s X t l))
    where
      go : (r : Run (List ℤ)) → Does r (done (held s false X)) → Holding (ended written t r).left
      go (refused p) d = not_refused d
      go (done u) d = record { good = d.1; back = false; box = X; is = done_same (sym d.0); long = (fits s 1 X e).box; inside = k }

-- ---- no wider
narrower : (o : Operation) (t : List ℤ) → Tightens o → Good t → Narrowed (size_of t) (box_in t) (box_in (operate o t).left)
unfolding operate ended
narrower o t h (blank l e) = record { each = λ j g. absurd (omega arith) }
narrower o t h (full s b X K w) = go (run o t) (afresh o (held_in t)) (run_does o t (full s b X K w)) (rw (loaded_in w) (afresh_step s o _ X h w.ready.box))
  where
    next : (u : List ℤ) → Next s o X (held_in u) → Narrowed (size_of t) (box_in t) (box_in u)
    next u n = rw (box_held_lem t, loaded_in w, box_held_lem u, n.is, w.size) n.narrowed

    go : (r : Run (List ℤ)) (q : Run Held) → Does r q → OnStep s o X q → Narrowed (size_of t) (box_in t) (box_in (ended written t r).left)
    go (refused p) q d f = record { each = λ j g. contains_refl (at (box_in t) j) }
    go (done u) q d f = next u (rw d.0 at f)

pub no_weight_lost : NoWeightLost
unfolding after
no_weight_lost =
    record {
      kept = λ s X t l e x sol k os w.
          let h = after_holding s x sol os w (load_holding s x sol X t l e k) in
          record { bounded = bounded s x sol h; not_empty = not_empty s x sol h };
      never_wider = λ os o h. narrower o (after os empty) h (after_good os empty empty_good);
    }
