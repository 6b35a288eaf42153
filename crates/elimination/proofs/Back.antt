-- One unknown of the back-substitution, and one turn of its loop.
use mathlib.Core.Path.{◌≡◌, refl, sym, ap, ap₂, ◌∙◌}
use mathlib.Core.Bool.{Bool, true, false, cond}
use mathlib.Core.List.{List}
use Prim.Native.Nat.{ℕ, suc, ◌+◌, ◌-◌, ◌*◌, ◌≤◌, ◌<◌}
use native.Mathlib.Nat.{add_assoc}
use native.Mathlib.Omega.{arith}
use lib.IntN.{ℤ}
use Rattle.outcome.specs.declared.Refusal.TheVariants as refusal
use Rattle.interval.specs.declared.Interval.{Interval}
use Rattle.interval.specs.Interval.{acceptable, contains_zero, in_range, exact_difference, quotient}
use Rattle.interval.specs.Code.{Representable}
use Rattle.interval.proofs.Range.{accept}
use Rattle.inputs.specs.Place.{at, cell}
use Rattle.inputs.specs.Code.{Sound}
use Rattle.inputs.proofs.Place.{at_put_other, cell_before}
use Rattle.rows.specs.Sum.{once}
use Rattle.rows.proofs.Size.{Small, acceptable_small, difference_small, small_fits}
use Rattle.rows.proofs.Sum.{once_small}
use Rattle.std.specs.Prelude.{Result, Ok, Err, IfErr}
use Rattle.outcome.specs.declared.Refusal.{Refusal}
use Rattle.outcome.specs.Run.{Run, refused, done, and_then, run_of}
use Rattle.forward.specs.Run.{in_range_then, rhs}
use Rattle.elimination.specs.Back.{numerator, back}
use Rattle.forward.specs.Code.{Working, Pivots, Placed, Ran}
use Rattle.outcome.proofs.Run.{done_same}
use Rattle.forward.proofs.Run.{ranged}
use Rattle.forward.proofs.Step.{Turned, turned, placed_ran}
use Rattle.elimination.specs.Code.{unknown}

module _ (n i : ℕ) (t : List ℤ) where
  -- the code counts its positions from those of a(i,i) and f(i)
  pub numerator_is : (f s : Interval) → f ≡ at t (rhs n i) → s ≡ once t (cell n i i + 1) t (rhs n i + 1) (n - (i + 1)) → exact_difference f s ≡ numerator once n i t
  unfolding numerator
  numerator_is f s e g =
      ap₂ exact_difference e (g ∙ ap₂ (λ p q. once t p t q (n - (i + 1))) (add_assoc (i * n) i 1) (add_assoc (n * n) i 1))

  module _ (w : Working n t) where
    numerator_small : Small (2000000000 + 4000000000000 * (n - (i + 1))) (numerator once n i t)
    unfolding numerator
    numerator_small = difference_small (acceptable_small _ (w.sound.each _)) (once_small t _ t _ _ w.sound w.sound)

    pub numerator_fits : Representable (numerator once n i t)
    numerator_fits = small_fits (omega (arith, w.few)) numerator_small

    pub numerator_accepted : in_range (numerator once n i t) ≡ true → acceptable (numerator once n i t) ≡ true
    numerator_accepted e = accept _ numerator_small.order e

  -- a row whose first test held, and one whose first test did not
  pub unknown_placed : (x : Interval) {r : Result (Unit {0}) Refusal} {t' : List ℤ} → in_range (numerator once n i t) ≡ true → x ≡ quotient (numerator once n i t) (at t (cell n i i)) → Placed tt (i + 1) x (rhs n i) t r t' → Ran (unknown n i t) r t'
  unfolding unknown in_range_then
  unknown_placed x e f p = rw e (placed_ran (rw f at p))

  pub unknown_not : Sound t → in_range (numerator once n i t) ≡ false → Ran (unknown n i t) (Err (refusal.OutOfRange (i + 1))) t
  unfolding unknown in_range_then
  unknown_not s e = record { is = rw e; sound = s }

-- one test after another
both : (a b : Bool) (t : List ℤ) (o : Refusal) (f : List ℤ → Run (List ℤ)) → cond a (cond b (f t) (refused o)) (refused o) ≡ and_then (cond a (cond b (done t) (refused o)) (refused o)) f
unfolding and_then
both true true t o f = refl
both true false t o f = refl
both false b t o f = refl

-- the loop counts down: i is one more than the row
module _ (n i : ℕ) (t : List ℤ) where
  pub back_end : i ≤ 0 → back once n i t ≡ done t
  unfolding back
  back_end h = let e : i ≡ 0 = omega arith in rw e

  pub back_turn : {r : Result (Unit {0}) Refusal} {t' : List ℤ} → 0 < i → Ran (unknown n (i - 1) t) r t' → Turned (back once n i t) r t' (back once n (i - 1))
  unfolding back unknown in_range_then
  back_turn h p =
      let e : i ≡ suc (i - 1) = omega arith in
      let v = numerator once n (i - 1) t in
      turned (ap (λ k. back once n k t) e ∙ both (in_range v) (in_range (quotient v (at t (cell n (i - 1) (i - 1))))) _ _ (back once n (i - 1)) ∙ ap (λ r. and_then r (back once n (i - 1))) (sym p.is))

-- x(i) stands after all the pivots, and on a refusal nothing changed
pub pivots_solved : (n i : ℕ) (t : List ℤ) {t' : List ℤ} {r : Result (Unit {0}) Refusal} → Pivots n t → Ran (unknown n i t) r t' → IfErr r (λ _. t' ≡ t) → Pivots n t'
unfolding unknown
pivots_solved n i t {t'} {r} p s k = go r s.is k
  where
    go : (r : Result (Unit {0}) Refusal) → run_of r t' ≡ unknown n i t → IfErr r (λ _. t' ≡ t) → Pivots n t'
    go (Ok _) e k =
        let w = done_same (ranged _ _ _ t' (ranged _ _ _ t' (sym e)).rest).rest in
        record { each = λ k h. ap contains_zero (ap (λ l. at l (cell n k k)) (sym w) ∙ at_put_other t (rhs n i) (cell n k k) _ (omega (arith, cell_before n k k h h))) ∙ p.each k h }
    go (Err o) e k = rw k p
