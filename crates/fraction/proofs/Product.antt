-- The product of two intervals is the hull of the exact products.
use mathlib.Core.Path.{◌≡◌}
use native.Mathlib.Omega.{arith}
use lib.IntN.{ℤ, pos, neg_ℤ, ◌*ℤ◌, neg_ℤ-neg_ℤ}
use lib.Signed.{◌≤ℤ◌, ◌<ℤ◌}
use Rattle.integer.specs.Rounding.{floor_div, ceil_div}
use Rattle.integer.proofs.Ring.{neg-*ℤ}
use Rattle.integer.proofs.Linear.{linear, over}
use Rattle.integer.proofs.Order.{also, prod, lt_le, trans, corners}
use Rattle.integer.proofs.Rounding.{floor_low}
use Rattle.interval.specs.Interval
use Rattle.interval.specs.Code.{negated}
use Rattle.interval.specs.declared.Interval.{Interval}
use Rattle.fraction.specs.Fraction.{Fraction, Inside, Scale, product_at, ProductAt}
use Rattle.fraction.specs.Meaning.{Result, Hull}
use Rattle.interval.proofs.Corners.{least_ind, least_first, least_second, least_third, least_fourth, neg_greatest}
use Rattle.fraction.proofs.Inside.{same_refl, same_sym, at_least_same, opposite, negated_order, whole, low_end, high_end}
use Rattle.fraction.proofs.Hull.{result, Near, near_floor, Lower, hull, upper_left}

-- the lowest of the four end results
abbrev least_corner : Interval → Interval → ℤ
least_corner x y = Interval.least (x.lo *ℤ y.lo) (x.lo *ℤ y.hi) (x.hi *ℤ y.lo) (x.hi *ℤ y.hi)

module _ (s : Scale) (x y : Interval) where
  -- rounded down, it is at most each exact product
  product_bound : (a b : Fraction) → Inside x a → Inside y b →
      (floor_div (least_corner x y) s.units *ℤ (product_at s a b).den) ≤ℤ (product_at s a b).num
  unfolding product_at
  product_bound a b h k =
      corners (x.lo *ℤ a.den) (x.hi *ℤ a.den) (y.lo *ℤ b.den) (y.hi *ℤ b.den) a.num b.num _ h.low h.high k.low k.high
      (at x.lo y.lo (least_first _ _ _ _)) (at x.lo y.hi (least_second _ _ _ _))
      (at x.hi y.lo (least_third _ _ _ _)) (at x.hi y.hi (least_fourth _ _ _ _))
    where
      grow : (f n u v q t : ℤ) → pos 0 <ℤ q → pos 0 <ℤ t → (f *ℤ n) ≤ℤ (u *ℤ v) → (f *ℤ (q *ℤ t *ℤ n)) ≤ℤ ((u *ℤ q) *ℤ (v *ℤ t))
      grow = over 6 _ (λ ρ h k e. also (prod e (prod (lt_le h) (lt_le k))) (simp (linear, ρ) (omega arith)))

      at : (u v : ℤ) → least_corner x y ≤ℤ (u *ℤ v) →
          (floor_div (least_corner x y) s.units *ℤ (a.den *ℤ b.den *ℤ s.units)) ≤ℤ ((u *ℤ a.den) *ℤ (v *ℤ b.den))
      at u v l =
          grow (floor_div (least_corner x y) s.units) s.units u v a.den b.den a.above b.above (trans (floor_low (least_corner x y) s.units s.above) l)

  -- an end result is itself an exact product
  corner : {u v : ℤ} → Inside x (whole u) → Inside y (whole v) → Near (Result (ProductAt s) x y) (floor_div (u *ℤ v) s.units)
  unfolding product_at
  corner {u} {v} h k = near_floor (u *ℤ v) s.units s.above (result h k (record { holds = exact (u *ℤ v) s.units }))
    where
      exact : (z n : ℤ) → z *ℤ (pos 1 *ℤ pos 1 *ℤ n) ≡ z *ℤ n
      exact = over 2 _ (λ ρ. simp (linear, ρ) (omega arith))

  product_lower : x.lo ≤ℤ x.hi → y.lo ≤ℤ y.hi → Lower (Result (ProductAt s) x y) (Interval.product_at s.units x y).lo
  unfolding Interval.product_at Interval.rounded Interval.exact_product
  product_lower h k =
      record {
        bound = λ c r.
            at_least_same (floor_div (least_corner x y) s.units) (product_at s r.left r.right) c (same_sym r.exact)
            (product_bound r.left r.right r.left_in r.right_in);
        near = least_ind _ _ _ _ (λ z. Near (Result (ProductAt s) x y) (floor_div z s.units))
            (corner (low_end h) (low_end k)) (corner (low_end h) (high_end k)) (corner (high_end h) (low_end k)) (corner (high_end h) (high_end k));
      }

-- ---- the upper end is the negative of the lower end for −x and y
product_negated : (n : ℤ) (x y : Interval) → (Interval.product_at n (negated x) y).lo ≡ neg_ℤ (Interval.product_at n x y).hi
unfolding Interval.product_at Interval.rounded Interval.exact_product ceil_div
product_negated n x y = simp (neg_ℤ-neg_ℤ, neg_greatest, neg-*ℤ)

pub product_turn : (s : Scale) (a b c : Fraction) → ProductAt s a b c → ProductAt s (opposite a) b (opposite c)
unfolding product_at
product_turn s a b c e = record { holds = turn a.num b.num (a.den *ℤ b.den *ℤ s.units) c.num c.den e.holds }
  where
    turn : (p r q u w : ℤ) → u *ℤ q ≡ (p *ℤ r) *ℤ w → neg_ℤ u *ℤ q ≡ (neg_ℤ p *ℤ r) *ℤ w
    turn = over 5 _ (λ ρ. simp linear (omega arith))

pub product_hull : (s : Scale) (x y : Interval) → Hull (ProductAt s) x y (Interval.product_at s.units x y)
product_hull s x y =
    hull (λ h k.
    record {
      lower = product_lower s x y h k;
      upper = rw (← (product_negated s.units x y)) (upper_left (ProductAt s) (product_turn s) x y (product_lower s (negated x) y (negated_order x h) k));
    })

-- ---- as the crates above use it
pub product_inside : (s : Scale) {x y : Interval} {a b : Fraction} → Inside x a → Inside y b → Inside (Interval.product_at s.units x y) (product_at s a b)
product_inside s {x} {y} {a} {b} h k = (product_hull s x y).holds (product_at s a b) (result h k (same_refl _))
