-- The right side widened: one turn of the loop that writes it, and the box from its parts.
use mathlib.Core.Path.{◌≡◌, ◌∙◌}
use mathlib.Core.Bool.{true, false}
use mathlib.Core.List.{List}
use Prim.Native.Nat.{ℕ, ◌+◌, ◌*◌, ◌≤◌, ◌<◌}
use native.Mathlib.Omega.{arith}
use native.Mathlib.Decide.{ℕ_discrete}
use lib.IntN.{ℤ}
use lib.ListN.{length}
use Rattle.outcome.specs.declared.Refusal.{Refusal}
use Rattle.outcome.specs.declared.Refusal.TheVariants as refusal
use Rattle.outcome.specs.Run.{refused, done, and_then, ended}
use Rattle.interval.specs.declared.Interval.{Interval}
use Rattle.inputs.specs.Place.{at, put, numbers}
use Rattle.inputs.specs.System.{System}
use Rattle.inputs.specs.Code.{Ended}
use Rattle.inputs.proofs.Place.{length_put, at_put_same, at_put_other, numbers_is}
use Rattle.start_box.specs.Reach.{reach}
use Rattle.start_box.specs.Call.{widened, all_in_range, box_around, begun}
use Rattle.std.specs.Prelude.{Result, Ok, Err}

-- ---- the box so far: its first i components are written
pub record Halfway (f : ℕ → Interval) (n i : ℕ) (x : List ℤ) : Type 0 where
  pub long : length x ≡ 2 * n
  pub each : (p : ℕ) → p < i → at x p ≡ f p

module _ {f : ℕ → Interval} {n i : ℕ} {x : List ℤ} (w : Halfway f n i x) where
  pub halfway_go : i < n → {v : Interval} {y : List ℤ} → v ≡ f i → y ≡ put x i v → Halfway f n (i + 1) y
  halfway_go h {v} e g = record { long = rw g (length_put x i v ∙ w.long); each = λ p k. rw g (go p k (ℕ_discrete p i)) }
    where
      go : (p : ℕ) → p < i + 1 → Dec (p ≡ i) → at (put x i v) p ≡ f p
      go p k (yes q) = rw q (at_put_same x i v (omega (arith, w.long)) ∙ e)
      go p k (no q) = at_put_other x i p v q ∙ w.each p (omega (arith, q))

  pub halfway_end : n ≤ i → x ≡ numbers f n 0
  halfway_end h = numbers_is f n x w.long (λ p k. w.each p (omega arith))

-- ---- the box from its parts
module _ (n : ℕ) (b : List ℤ) (r : ℤ) (x : List ℤ) where
  pub around_out : all_in_range (widened b r) n 0 ≡ false → Ended (box_around n b r) (Err (refusal.OutOfRange 0)) x x
  unfolding box_around ended
  around_out e = record { is = rw e }

  pub around_is : {y : List ℤ} → all_in_range (widened b r) n 0 ≡ true → y ≡ numbers (widened b r) n 0 → Ended (box_around n b r) (Ok tt) x y
  unfolding box_around ended
  around_is e f = record { is = rw (e, f) }

module _ (s : System) (x : List ℤ) where
  pub begun_stops : {o : Refusal} → refused o ≡ reach s → Ended (begun s) (Err o) x x
  unfolding begun and_then ended
  begun_stops e = record { is = rw (← e) }

  pub begun_goes : {r : ℤ} {o : Result (Unit {0}) Refusal} {y : List ℤ} → done r ≡ reach s → Ended (box_around s.size s.right r) o x y → Ended (begun s) o x y
  unfolding begun and_then
  begun_goes e h = rw (← e) h
