-- The quotient of two intervals, the divisor without 0, is the hull of the exact quotients. It is shown for a divisor above 0; for one
-- below 0 both operands change their signs.
use mathlib.Core.Path.{◌≡◌, ap}
use mathlib.Core.Logic.{⊎_elim}
use mathlib.Core.Bool.{false}
use native.Mathlib.Omega.{arith}
use lib.IntN.{ℤ, pos, neg_ℤ, ◌*ℤ◌, neg_ℤ-neg_ℤ}
use lib.Signed.{◌≤ℤ◌, ◌<ℤ◌, <ℤ-≤ℤ_trans, ≤ℤ_refl}
use Rattle.integer.specs.Rounding.{floor_div, ceil_div}
use Rattle.integer.proofs.Ring.{neg-*ℤ}
use Rattle.integer.proofs.Linear.{linear, over}
use Rattle.integer.proofs.Order.{also, prod, lt_le, neg_pos, cancel, both_pos, corners}
use Rattle.integer.proofs.Rounding.{floor_iff}
use Rattle.interval.specs.Interval
use Rattle.interval.specs.Code.{negated}
use Rattle.interval.specs.declared.Interval.{Interval}
use Rattle.interval.proofs.Range.{apart}
use Rattle.interval.proofs.Quotient.{quotient_turned}
use Rattle.fraction.specs.Fraction.{Fraction, Inside, Scale, product_at, QuotientAt}
use Rattle.fraction.specs.Meaning.{Result, Hull}
use Rattle.interval.proofs.Corners.{least_ind, least_first, least_second, neg_greatest}
use Rattle.fraction.proofs.Inside.{same_sym, opposite, negated_negated, negated_order, inside_negated, in_order, whole, low_end, high_end}
use Rattle.fraction.proofs.Hull.{result, Near, near_floor, Lower, lower_of, hull, upper_left}
use Rattle.fraction.proofs.Product.{product_turn}

-- k·d ≤ z at both ends d of the divisor, so k·b ≤ z for each b inside: −k·b is at least the lower of its values at the ends
between_ends : (k z : ℤ) (y : Interval) (b : Fraction) → Inside y b → (k *ℤ y.lo) ≤ℤ z → (k *ℤ y.hi) ≤ℤ z → (k *ℤ b.num) ≤ℤ (z *ℤ b.den)
between_ends k z y b h l₁ l₂ =
    let e₁ = at k z y.lo b.den b.above l₁ in
    let e₂ = at k z y.hi b.den b.above l₂ in
    let r = ≤ℤ_refl (neg_ℤ k) in
    back k b.num (z *ℤ b.den)
    (corners (y.lo *ℤ b.den) (y.hi *ℤ b.den) (neg_ℤ k) (neg_ℤ k) b.num (neg_ℤ k) (neg_ℤ (z *ℤ b.den)) h.low h.high r r e₁ e₁ e₂ e₂)
  where
    at : (k z d t : ℤ) → pos 0 <ℤ t → (k *ℤ d) ≤ℤ z → neg_ℤ (z *ℤ t) ≤ℤ ((d *ℤ t) *ℤ neg_ℤ k)
    at = over 4 _ (λ ρ n e. also (prod e (lt_le n)) (simp (linear, ρ) (omega arith)))

    back : (k r z : ℤ) → neg_ℤ z ≤ℤ (r *ℤ neg_ℤ k) → (k *ℤ r) ≤ℤ z
    back = over 3 _ (λ ρ. simp linear (omega arith))

-- ---- a divisor above 0
module _ (s : Scale) (x y : Interval) (n : pos 0 <ℤ y.lo) where
  -- what is at most the lower end of x by either end of y, rounded down, is at most each exact quotient
  quotient_bound : (k : ℤ) (c : Fraction) → Result (QuotientAt s) x y c → k ≤ℤ floor_div (x.lo *ℤ s.units) y.lo →
      k ≤ℤ floor_div (x.lo *ℤ s.units) y.hi → (k *ℤ c.den) ≤ℤ c.num
  unfolding product_at
  quotient_bound k c r l₁ l₂ =
      let a = r.left in
      let b = r.right in
      let e₁ = (floor_iff (x.lo *ℤ s.units) y.lo k n).0 l₁ in
      let e₂ = (floor_iff (x.lo *ℤ s.units) y.hi k (<ℤ-≤ℤ_trans n (in_order r.right_in))).0 l₂ in
      let m = <ℤ-≤ℤ_trans (both_pos y.lo b.den n b.above) r.right_in.low in
      cancel (k *ℤ c.den) c.num (b.num *ℤ a.den) (both_pos b.num a.den m a.above)
      (go x.lo s.units k a.num a.den b.num b.den c.num c.den s.above a.above b.above c.above r.left_in.low
      (between_ends k (x.lo *ℤ s.units) y b r.right_in e₁ e₂) r.exact.holds)
    where
      go : (l n k p q r t u w : ℤ) → pos 0 <ℤ n → pos 0 <ℤ q → pos 0 <ℤ t → pos 0 <ℤ w → (l *ℤ q) ≤ℤ p → (k *ℤ r) ≤ℤ (l *ℤ n *ℤ t) →
          (u *ℤ r) *ℤ q ≡ p *ℤ (w *ℤ t *ℤ n) → ((k *ℤ w) *ℤ (r *ℤ q)) ≤ℤ (u *ℤ (r *ℤ q))
      go = over 9 _ (λ ρ n₁ n₂ n₃ n₄ h g e.
          also (prod g (prod (lt_le n₂) (lt_le n₄))) (also (prod h (prod (lt_le n₁) (prod (lt_le n₃) (lt_le n₄)))) (also e (simp (linear, ρ) (omega arith)))))

  -- an end result is itself an exact quotient
  corner : {u d : ℤ} → pos 0 <ℤ d → Inside x (whole u) → Inside y (whole d) → Near (Result (QuotientAt s) x y) (floor_div (u *ℤ s.units) d)
  unfolding product_at
  corner {u} {d} m h k = near_floor (u *ℤ s.units) d m (result h k (record { holds = exact u d s.units }))
    where
      exact : (u d n : ℤ) → ((u *ℤ n) *ℤ d) *ℤ pos 1 ≡ u *ℤ (d *ℤ pos 1 *ℤ n)
      exact = over 3 _ (λ ρ. simp (linear, ρ) (omega arith))

  lower_above : x.lo ≤ℤ x.hi → y.lo ≤ℤ y.hi → Lower (Result (QuotientAt s) x y) (Interval.quotient_at s.units x y).lo
  unfolding Interval.quotient_at
  lower_above h k =
      let m = <ℤ-≤ℤ_trans n k in
      record {
        bound = λ c r. quotient_bound (Interval.quotient_at s.units x y).lo c r (least_first _ _ _ _) (least_second _ _ _ _);
        near = least_ind _ _ _ _ (Near (Result (QuotientAt s) x y))
            (corner n (low_end h) (low_end k)) (corner m (low_end h) (high_end k)) (corner n (high_end h) (low_end k)) (corner m (high_end h) (high_end k));
      }

-- ---- a divisor below 0: a/b is (−a)/(−b)
module _ (s : Scale) where
  both_turned : (x y : Interval) (c : Fraction) → Result (QuotientAt s) x y c → Result (QuotientAt s) (negated x) (negated y) c
  unfolding product_at
  both_turned x y c r =
      let a = r.left in
      let b = r.right in
      result (inside_negated r.left_in) (inside_negated r.right_in)
      (record { holds = turn a.num a.den b.num c.num (c.den *ℤ b.den *ℤ s.units) r.exact.holds })
    where
      turn : (p q r u d : ℤ) → (u *ℤ r) *ℤ q ≡ p *ℤ d → (u *ℤ neg_ℤ r) *ℤ q ≡ neg_ℤ p *ℤ d
      turn = over 5 _ (λ ρ. simp linear (omega arith))

  quotient_lower : (x y : Interval) → Interval.contains_zero y ≡ false → x.lo ≤ℤ x.hi → y.lo ≤ℤ y.hi →
      Lower (Result (QuotientAt s) x y) (Interval.quotient_at s.units x y).lo
  quotient_lower x y z h k = ⊎_elim (λ n. lower_above s x y n h k) below (apart y z)
    where
      below : y.hi <ℤ pos 0 → Lower (Result (QuotientAt s) x y) (Interval.quotient_at s.units x y).lo
      below n =
          rw (← (ap (λ (v : Interval). v.lo) (quotient_turned s.units x y k n)))
          (lower_of (λ c r. rw (negated_negated x, negated_negated y) at (both_turned (negated x) (negated y) c r)) (both_turned x y)
          (lower_above s (negated x) (negated y) (neg_pos n) (negated_order x h) (negated_order y k)))

-- ---- the upper end is the negative of the lower end for −x and y
quotient_negated : (n : ℤ) (x y : Interval) → (Interval.quotient_at n (negated x) y).lo ≡ neg_ℤ (Interval.quotient_at n x y).hi
unfolding Interval.quotient_at ceil_div
quotient_negated n x y = simp (neg_ℤ-neg_ℤ, neg_greatest, neg-*ℤ)

quotient_turn : (s : Scale) (a b c : Fraction) → QuotientAt s a b c → QuotientAt s (opposite a) b (opposite c)
quotient_turn s a b c e = same_sym (product_turn s c b a (same_sym e))

pub quotient_hull : (s : Scale) (x y : Interval) → Interval.contains_zero y ≡ false → Hull (QuotientAt s) x y (Interval.quotient_at s.units x y)
quotient_hull s x y z =
    hull (λ h k.
    record {
      lower = quotient_lower s x y z h k;
      upper = rw (← (quotient_negated s.units x y)) (upper_left (QuotientAt s) (quotient_turn s) x y (quotient_lower s (negated x) y z (negated_order x h) k));
    })

-- ---- as the crates above use it
pub quotient_inside : (s : Scale) {x y : Interval} {a b c : Fraction} → Interval.contains_zero y ≡ false → Inside x a → Inside y b → QuotientAt s a b c →
    Inside (Interval.quotient_at s.units x y) c
quotient_inside s {x} {y} {c = c} z h k e = (quotient_hull s x y z).holds c (result h k e)
