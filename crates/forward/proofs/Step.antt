-- What it is to place a value, in the range and out of it; parts of the calculation in sequence.
use mathlib.Core.Path.{◌≡◌, refl, sym, ap, ◌∙◌}
use mathlib.Core.Bool.{Bool, true, false, cond}
use mathlib.Core.List.{List}
use Prim.Native.Nat.{ℕ, suc, ◌+◌, ◌-◌, ◌*◌, ◌<◌}
use native.Mathlib.Omega.{arith}
use lib.IntN.{ℤ}
use lib.ListN.{length}
use lib.Signed.{◌≤ℤ◌}
use Rattle.std.specs.Prelude.{Result, Ok, Err, IfErr, IsErrAnd}
use Rattle.interval.specs.declared.Interval.{Interval}
use Rattle.interval.specs.Interval.{in_range}
use Rattle.interval.proofs.Range.{accept}
use Rattle.inputs.specs.Place.{put}
use Rattle.inputs.specs.Code.{Sound}
use Rattle.inputs.proofs.Place.{sound_put}
use Rattle.outcome.specs.declared.Refusal.{Refusal}
use Rattle.outcome.specs.declared.Refusal.TheVariants as refusal
use Rattle.outcome.specs.Run.{Run, refused, done, and_then, run_of}
use Rattle.outcome.proofs.Run.{carried}
use Rattle.forward.specs.Run.{in_range_then}
use Rattle.forward.specs.Forward.{Table}
use Rattle.forward.specs.Code.{Working, Placed, Ran, Reached}

module _ (v : Interval) (p : ℕ) (t : List ℤ) (s : Sound t) {row : ℕ} where
  pub placed_in : (t' : List ℤ) → 2 * p + 1 < length t → v.lo ≤ℤ v.hi → in_range v ≡ true → t' ≡ put t p v → Placed {A = Unit {0}} tt row v p t (Ok tt) t'
  placed_in t' l o e f = record { answer = rw e; list = rw e f; sound = rw f (sound_put t p v s l (accept v o e)) }

  pub placed_out : in_range v ≡ false → Placed {A = Unit {0}} tt row v p t (Err (refusal.OutOfRange row)) t
  placed_out e = record { answer = rw e; list = rw e; sound = s }

-- what was placed goes on, and what was not ends it
pub not_err : {A B : Type 0} {a : A} {o : Refusal} → ◌≡◌ {A = Result A Refusal} (Ok a) (Err o) → B
not_err e = let z : ◌≡◌ {A = ℕ} 0 1 = cc in absurd (omega arith)

module _ {A : Type 0} {a : A} {row : ℕ} {v : Interval} {p : ℕ} {t t' : List ℤ} {r : Result A Refusal} (q : Placed a row v p t r t') where
  -- a factor that was placed is the value, and the run goes on from it
  pub placed_go : (f : Interval → List ℤ → Run (List ℤ)) {x : A} → r ≡ Ok x → (x ≡ a) × (in_range v ≡ true) × (in_range_then row v (λ w. f w (put t p w)) ≡ f v t')
  unfolding in_range_then
  placed_go f {x} e = go (in_range v) q.answer q.list
    where
      go : (b : Bool) → r ≡ cond b (Ok a) (Err (refusal.OutOfRange row)) → t' ≡ cond b (put t p v) t → (x ≡ a) × (b ≡ true) × (cond b (f v (put t p v)) (refused (refusal.OutOfRange row)) ≡ f v t')
      go true h l = (let z : ◌≡◌ {A = Result A Refusal} (Ok x) (Ok a) = sym e ∙ h in cc, refl, rw l)
      go false h l = let z : ◌≡◌ {A = Result A Refusal} (Ok x) (Err (refusal.OutOfRange row)) = sym e ∙ h in absurd (not_err z)

  pub placed_stop : (f : Interval → List ℤ → Run (List ℤ)) {o : Refusal} → r ≡ Err o → in_range_then row v (λ w. f w (put t p w)) ≡ refused o
  unfolding in_range_then
  placed_stop f {o} e = go (in_range v) q.answer
    where
      go : (b : Bool) → r ≡ cond b (Ok a) (Err (refusal.OutOfRange row)) → cond b (f v (put t p v)) (refused (refusal.OutOfRange row)) ≡ refused o
      go true h = let z : ◌≡◌ {A = Result A Refusal} (Ok a) (Err o) = sym h ∙ e in absurd (not_err z)
      go false h = let z : ◌≡◌ {A = Result A Refusal} (Err (refusal.OutOfRange row)) (Err o) = sym h ∙ e in cc

-- a part of a run by the answer of the code: on to what follows, or its refusal is the refusal of the whole
pub record Turned {A B : Type 0} (run : Run B) (r : Result (Unit {0}) Refusal) (after : A) (f : A → Run B) : Type 0 where
  is : run ≡ and_then (run_of r after) f

module _ {A B : Type 0} {run : Run B} {r : Result (Unit {0}) Refusal} {after : A} {f : A → Run B} where
  pub turned : run ≡ and_then (run_of r after) f → Turned run r after f
  turned e = record { is = e }

  pub on_ok : Turned run r after f → r ≡ Ok tt → run ≡ f after
  unfolding and_then
  on_ok e h = rw h at e.is

  pub on_err : {o : Refusal} → Turned run r after f → r ≡ Err o → run ≡ refused o
  unfolding and_then
  on_err e h = rw h at e.is

-- one turn of a loop that places a value
pub placed_turn : {row : ℕ} {v : Interval} {p : ℕ} {t t' : List ℤ} {r : Result (Unit {0}) Refusal} → Placed tt row v p t r t' → (f : List ℤ → Run (List ℤ)) →
    in_range_then row v (λ w. f (put t p w)) ≡ and_then (run_of r t') f
unfolding in_range_then and_then
placed_turn {row} {v} {p} {t} q f = rw (q.answer, q.list) (go (in_range v))
  where
    go : (b : Bool) → cond b (f (put t p v)) (refused (refusal.OutOfRange row)) ≡ and_then (run_of (cond b (Ok tt) (Err (refusal.OutOfRange row))) (cond b (put t p v) t)) f
    go true = refl
    go false = refl

-- a part that does nothing but place a value
pub placed_ran : {row : ℕ} {v : Interval} {p : ℕ} {t t' : List ℤ} {r : Result (Unit {0}) Refusal} → Placed tt row v p t r t' → Ran (in_range_then row v (λ w. done (put t p w))) r t'
unfolding and_then
placed_ran {t' = t'} {r = r} q = record { is = go r ∙ sym (placed_turn q done); sound = q.sound }
  where
    go : (r : Result (Unit {0}) Refusal) → run_of r t' ≡ and_then (run_of r t') done
    go (Ok _) = refl
    go (Err o) = refl

-- and on a refusal leaves the working copy as it was
pub placed_kept : {A : Type 0} {a : A} {row : ℕ} {v : Interval} {p : ℕ} {t t' : List ℤ} {r : Result A Refusal} → Placed a row v p t r t' → IfErr r (λ _. t' ≡ t)
placed_kept {a = a} {row} {v} {p} {t} {t'} {r} q = go r (in_range v) q.answer q.list
  where
    go : (r : Result _ Refusal) (b : Bool) → r ≡ cond b (Ok a) (Err (refusal.OutOfRange row)) → t' ≡ cond b (put t p v) t → IfErr r (λ _. t' ≡ t)
    go (Ok x) b e l = tt
    go (Err o) true e l = absurd (not_err (sym e))
    go (Err o) false e l = l

-- a part by what the code answered
pub ran_is : {run : Run (List ℤ)} {r o : Result (Unit {0}) Refusal} {t : List ℤ} → Ran run r t → r ≡ o → run ≡ run_of o t
ran_is {t = t} p e = sym p.is ∙ ap (λ r. run_of r t) e

pub reached_is : {run : Run Table} {r o : Result (Unit {0}) Refusal} {s : Table} → Reached run r s → r ≡ o → run ≡ run_of o s
reached_is {s = s} p e = sym p.is ∙ ap (λ r. run_of r s) e

-- a refusal that `?` hands on
pub ran_err : {run : Run (List ℤ)} {r : Result (Unit {0}) Refusal} {o : Refusal} {t : List ℤ} → IsErrAnd r (λ p. p ≡ o) → run ≡ refused o → Sound t → Ran run r t
ran_err {t = t} h e s = record { is = ap (λ r. run_of r t) (carried _ _ h) ∙ sym e; sound = s }

-- the working copy after a call that keeps its length
pub working_after : {n : ℕ} {t t' : List ℤ} → Working n t → length t' ≡ length t → Sound t' → Working n t'
working_after w e s = record { few = w.few; room = rw e w.room; sound = s }

-- there is one more turn
pub turn : (n j : ℕ) → j < n → n - j ≡ suc (n - (j + 1))
turn n j h = omega arith
