-- One turn of the loop of a call, and what its end says of all its sweeps.
use mathlib.Core.Path.{◌≡◌, refl, sym, ap, ◌∙◌, subst}
use mathlib.Core.Bool.{Bool, true, false}
use mathlib.Core.List.{List}
use Prim.Native.Nat.{ℕ, suc, ◌+◌, ◌-◌, ◌≤◌, ◌<◌}
use native.Mathlib.Omega.{arith}
use native.Mathlib.Nat.{zero-add, sub-zero}
use lib.IntN.{ℤ}
use lib.ListN.{length, take, drop}
use lib.Seq.{take-length}
use Rattle.outcome.specs.Table.{Outcome}
use Rattle.outcome.specs.declared.Ending.TheVariants.{Done, Spent}
use Rattle.outcome.specs.declared.Refusal.{Refusal}
use Rattle.outcome.specs.Run.{Run, refused, done, returned, ended}
use Rattle.inputs.specs.Tests.{Test}
use Rattle.std.specs.Prelude.{Some, Result, Ok, Err, is_ok}
use Rattle.inputs.specs.Tests.{tested}
use Rattle.inputs.specs.System.{System}
use Rattle.sweep.specs.declared.internal.pass.Way.TheVariants.{There, ThereAndBack}
use Rattle.sweep.specs.declared.Swept.{Swept}
use Rattle.sweep.specs.Pass.{differ}
use Rattle.sweep.specs.Call.{Log, stopped, settled, spent, swept, sweeps, count, ending, last, concluded}
use Rattle.sweep.specs.Calls.{sweep_call, symmetric_call, run_by, returned_by, call}
use Rattle.sweep.specs.Code.{run_of, Flagged, Passed, Logged, Ran, call_over}
use Rattle.outcome.specs.declared.Ending.TheVariants.{Done, Spent}

-- ---- what a turn does; the sweeps left are allowed − k
module _ (n : ℕ) (p : List ℤ → Run (List ℤ)) (allowed k : ℕ) (x : List ℤ) where
  pub sweeps_spent : allowed ≤ k → sweeps n p (allowed - k) x ≡ spent
  unfolding sweeps
  sweeps_spent h = let e : allowed - k ≡ 0 = omega arith in rw e

  module _ (h : k < allowed) where
    pub sweeps_stopped : {o : Refusal} → p x ≡ refused o → sweeps n p (allowed - k) x ≡ stopped o
    unfolding sweeps
    sweeps_stopped f = let e : allowed - k ≡ suc (allowed - (k + 1)) = omega arith in rw (e, f)

    module _ {y : List ℤ} (f : p x ≡ done y) where
      pub sweeps_settled : differ x y n 0 ≡ false → sweeps n p (allowed - k) x ≡ swept y settled
      unfolding sweeps
      sweeps_settled g = let e : allowed - k ≡ suc (allowed - (k + 1)) = omega arith in rw (e, f, g)

      pub sweeps_go : differ x y n 0 ≡ true → sweeps n p (allowed - k) x ≡ swept y (sweeps n p (allowed - (k + 1)) y)
      unfolding sweeps
      sweeps_go g = let e : allowed - k ≡ suc (allowed - (k + 1)) = omega arith in rw (e, f, g)

-- ---- all the sweeps from box x₀ on are k whole ones, and then those of l from box x on
pub record Since (l₀ : Log) (x₀ : List ℤ) (k : ℕ) (l : Log) (x : List ℤ) : Type 0 where
  pub ending : ending l₀ ≡ ending l
  pub counted : count l₀ ≡ k + count l
  pub box : (lent : List ℤ) → last l₀ lent x₀ ≡ last l lent x

pub since_start : (l : Log) (x : List ℤ) → Since l x 0 l x
since_start l x = record { ending = refl; counted = sym (zero-add (count l)); box = λ lent. refl }

module _ {l₀ : Log} {x₀ : List ℤ} {k : ℕ} {l : Log} {x : List ℤ} (s : Since l₀ x₀ k l x) where
  pub since_more : {l₁ : Log} {y : List ℤ} → l ≡ swept y l₁ → Since l₀ x₀ (k + 1) l₁ y
  since_more {l₁} {y} e =
      let f : k + suc (count l₁) ≡ k + 1 + count l₁ = omega arith in
      record {
        ending = s.ending ∙ ap ending e;
        counted = s.counted ∙ ap (λ a. k + count a) e ∙ f;
        box = λ lent. s.box lent ∙ ap (λ a. last a lent x) e;
      }

  -- the end of them, whichever it is
  logged_end : (o : Outcome) {c : ℕ} {y : List ℤ} → ending l ≡ o → count l + k ≡ c
      → (is_ok o ≡ true → (lent : List ℤ) → y ≡ last l lent x)
      → (is_ok o ≡ false → (lent : List ℤ) → lent ≡ last l lent x)
      → Logged l₀ x₀ (record { outcome = o; count = c }) y
  logged_end o e f g h =
      record {
        outcome = sym (s.ending ∙ e);
        count = omega (arith, s.counted, f);
        box = λ u lent. g u lent ∙ sym (s.box lent);
        lent = λ u lent. h u lent ∙ sym (s.box lent);
      }

  pub logged_refused : {o : Refusal} (y : List ℤ) → l ≡ stopped o → Logged l₀ x₀ (record { outcome = Err o; count = k }) y
  logged_refused {o} y e = logged_end (Err o) (ap ending e) (omega (arith, ap count e)) (λ u lent. cc) (λ u lent. sym (ap (λ a. last a lent x) e))

  pub logged_settled : l ≡ settled → Logged l₀ x₀ (record { outcome = Ok Done; count = k }) x
  logged_settled e = logged_end (Ok Done) (ap ending e) (omega (arith, ap count e)) (λ u lent. sym (ap (λ a. last a lent x) e)) (λ u lent. cc)

  pub logged_spent : {c : ℕ} → l ≡ spent → k ≡ c → Logged l₀ x₀ (record { outcome = Ok Spent; count = c }) x
  logged_spent e f = logged_end (Ok Spent) (ap ending e) (omega (arith, ap count e, f)) (λ u lent. sym (ap (λ a. last a lent x) e)) (λ u lent. cc)

-- ---- what one pass was
module _ {run : Run (List ℤ)} {n : ℕ} {x : List ℤ} {r : Result Bool Refusal} {y : List ℤ} (h : Passed run n x r y) where
  pub was_refused : {o : Refusal} → r ≡ Err o → run ≡ refused o
  was_refused e = sym h.is ∙ ap (λ a. run_of a y) e

  pub was_whole : {c : Bool} → r ≡ Ok c → run ≡ done y
  was_whole e = sym h.is ∙ ap (λ a. run_of a y) e

  pub was_flagged : {c : Bool} → r ≡ Ok c → c ≡ differ x y n 0
  was_flagged e = subst (Flagged n x y) e h.flagged

-- ---- the call's loop: k whole sweeps are done, and the box is x
pub record Midway (n : ℕ) (p : List ℤ → Run (List ℤ)) (allowed : ℕ) (x₀ : List ℤ) (k : ℕ) (x : List ℤ) : Type 0 where
  pub since : Since (sweeps n p allowed x₀) x₀ k (sweeps n p (allowed - k) x) x

pub midway_start : (n : ℕ) (p : List ℤ → Run (List ℤ)) (allowed : ℕ) (x : List ℤ) → Midway n p allowed x 0 x
midway_start n p d x = record { since = rw sub-zero (since_start (sweeps n p d x) x) }

module _ {n : ℕ} {p : List ℤ → Run (List ℤ)} {allowed : ℕ} {x₀ : List ℤ} {k : ℕ} {x : List ℤ} (s : Midway n p allowed x₀ k x) where
  pub midway_spent : allowed ≡ k → Logged (sweeps n p allowed x₀) x₀ (record { outcome = Ok Spent; count = allowed }) x
  midway_spent h = logged_spent s.since (sweeps_spent n p allowed k x (omega arith)) (sym h)

  module _ (h : k < allowed) {r : Result Bool Refusal} {y : List ℤ} (q : Passed (p x) n x r y) where
    pub midway_refused : {o : Refusal} → r ≡ Err o → Logged (sweeps n p allowed x₀) x₀ (record { outcome = Err o; count = k }) y
    midway_refused e = logged_refused s.since y (sweeps_stopped n p allowed k x h (was_refused q e))

    pub midway_settled : {c : ℕ} → c ≡ k + 1 → r ≡ Ok false → Logged (sweeps n p allowed x₀) x₀ (record { outcome = Ok Done; count = c }) y
    midway_settled f e = rw f (logged_settled (since_more s.since (sweeps_settled n p allowed k x h (was_whole q e) (sym (was_flagged q e)))) refl)

    pub midway_go : r ≡ Ok true → Midway n p allowed x₀ (k + 1) y
    midway_go e = record { since = since_more s.since (sweeps_go n p allowed k x h (was_whole q e) (sym (was_flagged q e))) }

-- ---- what the call makes of the end of its sweeps
-- the copy holds all that is copied
pub copied_all : (x b : List ℤ) {y : List ℤ} → y ≡ take (length x) (drop 0 b) → length x ≡ length b → y ≡ b
copied_all x b e l = e ∙ rw l (take-length b)

pub logged_from : (n : ℕ) (p : List ℤ → Run (List ℤ)) (k : ℕ) {x b y : List ℤ} {r : Swept} → x ≡ b → Logged (sweeps n p k x) x r y → Logged (sweeps n p k b) b r y
logged_from n p k {y = y} {r = r} e h = subst (λ (z : List ℤ). Logged (sweeps n p k z) z r y) e h

module _ {l : Log} {lent : List ℤ} {r : Swept} {y : List ℤ} (h : Logged l lent r y) where
  ran : {z : List ℤ} → z ≡ last l lent lent → Ran l lent r z
  ran g = record { is = λ i. returned (h.outcome i) (h.count i) (g i) }

  pub ran_lent : is_ok r.outcome ≡ false → Ran l lent r lent
  ran_lent e = ran (h.lent e lent)

  pub ran_written : {z : List ℤ} → is_ok r.outcome ≡ true → z ≡ y → Ran l lent r z
  ran_written e g = ran (g ∙ h.box e lent)

-- ---- a call, after its tests
module _ (t : Test) (l : Log) (x : List ℤ) where
  pub call_runs : {r : Swept} {y : List ℤ} → t ≡ Ok tt → Ran l x r y → returned r.outcome r.count y ≡ ended (concluded x) x (tested t (done l))
  unfolding tested ended
  call_runs e h = rw e h.is

  pub call_fails : {o : Refusal} → t ≡ Err o → returned (Err o) 0 x ≡ ended (concluded x) x (tested t (done l))
  unfolding tested ended
  call_fails e = rw e

-- ---- the two calls, by the way that their passes go
module _ (s : System) (k : ℕ) (x : List ℤ) where
  pub sweep_called : call_over (Some There) s k x ≡ call s (sweep_call k) x
  unfolding call_over returned_by run_by
  sweep_called = refl

  pub symmetric_called : call_over (Some ThereAndBack) s k x ≡ call s (symmetric_call k) x
  unfolding call_over returned_by run_by
  symmetric_called = refl
