-- Fractions inside intervals: equal ones lie inside together, a change of sign exchanges the ends, the ends themselves lie inside.
use mathlib.Core.Path.{◌≡◌, refl, sym, ap, ap₂}
use native.Mathlib.Omega.{arith}
use lib.IntN.{ℤ, pos, neg_ℤ, one, ◌*ℤ◌, neg_ℤ-neg_ℤ, *ℤ-one}
use lib.Signed.{◌≤ℤ◌, ◌<ℤ◌, lt_z_yes, ≤ℤ_refl}
use Rattle.integer.proofs.Linear.{linear, over}
use Rattle.integer.proofs.Order.{also, prod, trans, turn_le, lt_le, cancel}
use Rattle.integer.proofs.Extremes.{min_ind, max_ind}
use Rattle.interval.specs.Interval.{intersection}
use Rattle.interval.specs.Code.{negated}
use Rattle.interval.specs.declared.Interval.{Interval}
use Rattle.fraction.specs.Fraction.{Fraction, Inside, Same}

pub same_refl : (a : Fraction) → Same a a
same_refl a = record { holds = refl }

pub same_sym : {a b : Fraction} → Same a b → Same b a
same_sym e = record { holds = sym e.holds }

-- ---- the opposite of a fraction, and of all that lie inside an interval
abbrev pub opposite : Fraction → Fraction
opposite a = record { num = neg_ℤ a.num; den = a.den; above = a.above }

pub opposite_opposite : (a : Fraction) → opposite (opposite a) ≡ a
opposite_opposite a = ap (λ (p : ℤ). record { num = p; den = a.den; above = a.above }) (neg_ℤ-neg_ℤ a.num)

pub negated_negated : (v : Interval) → negated (negated v) ≡ v
negated_negated v = ap₂ (λ (l h : ℤ). record { lo = l; hi = h }) (neg_ℤ-neg_ℤ v.lo) (neg_ℤ-neg_ℤ v.hi)

pub negated_order : (v : Interval) → v.lo ≤ℤ v.hi → (negated v).lo ≤ℤ (negated v).hi
negated_order v = turn_le

-- an upper bound is a lower bound of the opposite
pub from_above : (k p q : ℤ) → p ≤ℤ (k *ℤ q) → (neg_ℤ k *ℤ q) ≤ℤ neg_ℤ p
from_above = over 3 _ (λ ρ. simp linear (omega arith))

pub to_above : (k p q : ℤ) → (neg_ℤ k *ℤ q) ≤ℤ neg_ℤ p → p ≤ℤ (k *ℤ q)
to_above = over 3 _ (λ ρ. simp linear (omega arith))

pub inside_negated : {v : Interval} {a : Fraction} → Inside v a → Inside (negated v) (opposite a)
inside_negated {v} {a} h = record { low = from_above v.hi a.num a.den h.high; high = turn v.lo a.num a.den h.low }
  where
    turn : (k p q : ℤ) → (k *ℤ q) ≤ℤ p → neg_ℤ p ≤ℤ (neg_ℤ k *ℤ q)
    turn = over 3 _ (λ ρ. simp linear (omega arith))

-- ---- equal fractions
pub at_least_same : (k : ℤ) (a b : Fraction) → Same a b → (k *ℤ a.den) ≤ℤ a.num → (k *ℤ b.den) ≤ℤ b.num
at_least_same k a b e h = cancel (k *ℤ b.den) b.num a.den a.above (go k a.num a.den b.num b.den b.above e.holds h)
  where
    go : (k p q r t : ℤ) → pos 0 <ℤ t → p *ℤ t ≡ r *ℤ q → (k *ℤ q) ≤ℤ p → ((k *ℤ t) *ℤ q) ≤ℤ (r *ℤ q)
    go = over 5 _ (λ ρ n e h. also (prod h (lt_le n)) (also e (simp (linear, ρ) (omega arith))))

pub inside_same : {v : Interval} {a b : Fraction} → Same a b → Inside v a → Inside v b
inside_same {v} {a} {b} e h =
    record {
      low = at_least_same v.lo a b e h.low;
      high = to_above v.hi b.num b.den (at_least_same (neg_ℤ v.hi) (opposite a) (opposite b) opposites (inside_negated h).low);
    }
  where
    turn : (p q r t : ℤ) → p *ℤ t ≡ r *ℤ q → neg_ℤ p *ℤ t ≡ neg_ℤ r *ℤ q
    turn = over 4 _ (λ ρ. simp linear (omega arith))

    opposites : Same (opposite a) (opposite b)
    opposites = record { holds = turn a.num a.den b.num b.den e.holds }

-- ---- what lies inside, and what that says of the ends
pub in_order : {v : Interval} {a : Fraction} → Inside v a → v.lo ≤ℤ v.hi
in_order {v} {a} h = cancel v.lo v.hi a.den a.above (trans h.low h.high)

pub intersection_inside : {x y : Interval} {a : Fraction} → Inside x a → Inside y a → Inside (intersection x y) a
unfolding intersection
intersection_inside {x} {y} {a} h k =
    record {
      low = max_ind x.lo y.lo (λ l. (l *ℤ a.den) ≤ℤ a.num) (λ e. k.low) (λ e. h.low);
      high = min_ind x.hi y.hi (λ u. a.num ≤ℤ (u *ℤ a.den)) (λ e. k.high) (λ e. h.high);
    }

abbrev pub whole : ℤ → Fraction
whole z = record { num = z; den = pos 1; above = lt_z_yes tt }

whole_inside : {v : Interval} {z : ℤ} → v.lo ≤ℤ z → z ≤ℤ v.hi → Inside v (whole z)
unfolding one
whole_inside h k = record { low = rw *ℤ-one h; high = rw *ℤ-one k }

pub low_end : {v : Interval} → v.lo ≤ℤ v.hi → Inside v (whole v.lo)
low_end {v} h = whole_inside (≤ℤ_refl v.lo) h

pub high_end : {v : Interval} → v.lo ≤ℤ v.hi → Inside v (whole v.hi)
high_end {v} h = whole_inside h (≤ℤ_refl v.hi)
