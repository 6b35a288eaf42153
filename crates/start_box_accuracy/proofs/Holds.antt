-- An accepted start box holds every solution.
use mathlib.Core.Path.{◌≡◌}
use mathlib.Core.List.{List}
use Prim.Native.Nat.{ℕ, ◌<◌}
use native.Mathlib.Omega.{arith}
use native.Mathlib.Nat.{zero-add}
use lib.IntN.{ℤ, pos, ◌+ℤ◌, ◌-ℤ◌, ◌*ℤ◌}
use lib.ListN.{length}
use lib.Signed.{◌≤ℤ◌, ◌<ℤ◌}
use Rattle.integer.proofs.Linear.{linear, over}
use Rattle.integer.proofs.Order.{trans, lt_le}
use Rattle.outcome.specs.declared.Refusal.TheVariants as refusal
use Rattle.outcome.specs.Run.{done}
use Rattle.outcome.proofs.Run.{joined}
use Rattle.fraction.specs.Fraction.{Fraction, Inside}
use Rattle.fraction.proofs.Inside.{inside_same}
use Rattle.inputs.specs.Place.{at, numbers}
use Rattle.inputs.specs.System.{System, tests}
use Rattle.inputs.proofs.Place.{numbers_at}
use Rattle.inputs.proofs.Accepted.{tested_done, to_end}
use Rattle.accuracy.specs.Solution.{Solution, InBox}
use Rattle.accuracy.proofs.Common.{ratio}
use Rattle.start_box.specs.Reach.{coefficients, dividend, reach}
use Rattle.start_box.specs.Call.{widened, all_in_range, box_around, begun, run}
use Rattle.start_box_accuracy.specs.Claim.{StartBoxHolds}
use Rattle.start_box_accuracy.proofs.Magnitude.{magnitude_above, beyond, beyond_above, beyond_high, beyond_low}
use Rattle.start_box_accuracy.proofs.Contraction.{within_reach}
use Rattle.start_box_accuracy.proofs.Reached.{handed_on, reached}
use Rattle.start_box_accuracy.proofs.Row.{weights, outside, row_beyond}

-- no weight lies farther beyond b than the reach
solution_near : (s : System) (r : ℤ) → reach s ≡ done r → (x : ℕ → Fraction) → Solution s x → (j : ℕ) → j < s.size → outside s x j ≤ℤ (r *ℤ (weights s x).den)
solution_near s r e x sol =
    let w = weights s x in
    within_reach s.size (coefficients s) (dividend s) r w.den (λ i j h k. magnitude_above _) (lt_le w.above)
    (outside s x) (λ j h. beyond_above _ _ _) (row_beyond s x sol.choice sol.meets) (reached s r e)

-- ---- b widened by r
box_around_lem : (n : ℕ) (b : List ℤ) (r : ℤ) {X : List ℤ} → box_around n b r ≡ done X → numbers (widened b r) n 0 ≡ X
unfolding box_around
box_around_lem n b r = handed_on (all_in_range (widened b r) n 0) (numbers (widened b r) n 0) (refusal.OutOfRange 0)

widened_inside : (b : List ℤ) (r : ℤ) (j : ℕ) (p q : ℤ) (h : pos 0 <ℤ q) → beyond (at b j) p q ≤ℤ (r *ℤ q) → Inside (widened b r j) (ratio p q h)
unfolding widened
widened_inside b r j p q h k =
    record {
      low = low (at b j).lo r p q (trans (beyond_low (at b j) p q) k);
      high = high (at b j).hi r p q (trans (beyond_high (at b j) p q) k);
    }
  where
    low : (l r p q : ℤ) → (l *ℤ q -ℤ p) ≤ℤ (r *ℤ q) → ((l -ℤ r) *ℤ q) ≤ℤ p
    low = over 4 _ (λ ρ. simp linear (omega arith))

    high : (u r p q : ℤ) → (p -ℤ u *ℤ q) ≤ℤ (r *ℤ q) → p ≤ℤ ((u +ℤ r) *ℤ q)
    high = over 4 _ (λ ρ. simp linear (omega arith))

run_holds : (s : System) (l : ℕ) (X : List ℤ) → run s l ≡ done X → (x : ℕ → Fraction) → Solution s x → InBox s.size X x
unfolding run begun
run_holds s l X e x sol =
    let a = joined _ _ X (tested_done (tests s l) _ X e).1 in
    let w = weights s x in
    record {
      each = λ j h.
          inside_same (w.same j h)
          (rw (← (box_around_lem s.size s.right a.mid a.rest), numbers_at (widened s.right a.mid) s.size 0 j h, zero-add j)
          (widened_inside s.right a.mid j (w.num j) w.den w.above (solution_near s a.mid a.first x sol j h)));
    }

pub holds : StartBoxHolds
holds s box X a = run_holds s (length box) X (to_end (run s (length box)) box a.returned a.left)
