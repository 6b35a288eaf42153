-- The accuracy rule holds.
use mathlib.Core.List.{List}
use Prim.Native.Nat.{ℕ}
use native.Mathlib.Omega.{arith}
use lib.IntN.{ℤ, pos, ◌-ℤ◌, ◌*ℤ◌, *ℤ_comm}
use lib.ListN.{length}
use lib.Signed.{◌≤ℤ◌, ◌<ℤ◌}
use Rattle.integer.proofs.Linear.{linear, over}
use Rattle.integer.proofs.Order.{also, prod, lt_le}
use Rattle.interval.specs.declared.Interval.{Interval}
use Rattle.interval.specs.Interval.{width}
use Rattle.fraction.specs.Fraction.{Fraction, Inside}
use Rattle.inputs.specs.System.{System}
use Rattle.rows.specs.Sum.{once}
use Rattle.elimination.proofs.Accepted.{accepted_A, accepted_B}
use Rattle.sweep.specs.Calls.{changes}
use Rattle.accuracy.specs.Solution.{Solution, InBox, balance_of}
use Rattle.accuracy.specs.Claim.{Start, lent, from_B, from_A, Covered, OffBy, Bounded, AccuracyRule}
use Rattle.accuracy.proofs.Elimination.{over_A, over_B}
use Rattle.accuracy.proofs.Follows.{follows_refl}
use Rattle.accuracy.proofs.Calls.{every_map, list_changes, list_empty}

-- ---- two figures inside the same bounds
off_by : {v : Interval} {a y : Fraction} → Inside v a → Inside v y → OffBy (width v) a y
off_by {v} {a} {y} h k =
    record {
      below = go v.lo v.hi a.num a.den y.num y.den a.above y.above h.low k.high;
      above = rw (*ℤ_comm a.den y.den) (go v.lo v.hi y.num y.den a.num a.den y.above a.above k.low h.high);
    }
  where
    go : (l u p q r t : ℤ) → pos 0 <ℤ q → pos 0 <ℤ t → (l *ℤ q) ≤ℤ p → r ≤ℤ (u *ℤ t) → (r *ℤ q -ℤ p *ℤ t) ≤ℤ ((u -ℤ l) *ℤ (q *ℤ t))
    go = over 6 _ (λ ρ m n h k. also (prod h (lt_le n)) (also (prod k (lt_le m)) (simp (linear, ρ) (omega arith))))

pub held : {n : ℕ} {X : List ℤ} {x : ℕ → Fraction} → InBox n X x → Bounded n X x
held h = record { inside = h; close = λ j k y i. off_by (h.each j k) i }

-- ---- the box that a list begins with
begins : (s : System) (X : List ℤ) (start : Start s X) (x : ℕ → Fraction) → Solution s x → Covered start x → InBox s.size X x
unfolding balance_of
begins s X lent x sol m = m
begins s X (from_B box e) x sol m = over_B s (length box) X (accepted_B once s box e.returned e.left) x sol
begins s X (from_A a box f e) x sol m = rw f (over_A a (length box) X (accepted_A once a box e.returned e.left) x (rw f at sol))

pub accuracy : AccuracyRule
accuracy s X start calls =
    let fine = list_changes s calls (follows_refl s X) in
    record {
      bounded_at_start = λ x sol m. held (begins s X start x sol m);
      bounded_after = λ x sol m. every_map (λ c f. held (f.since_start.keeps x sol (begins s X start x sol m))) (changes s calls X) fine;
      empty_only = list_empty s calls (follows_refl s X);
      never_wider = every_map (λ c f. f.this_step.narrowed) (changes s calls X) fine;
    }
