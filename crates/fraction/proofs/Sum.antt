-- The exact sum and the exact difference of two intervals are the hulls of the sums and of the differences.
use mathlib.Core.Path.{◌≡◌}
use native.Mathlib.Omega.{arith}
use lib.IntN.{ℤ, pos, neg_ℤ, ◌+ℤ◌, ◌*ℤ◌, neg_ℤ-+ℤ}
use lib.Signed.{◌≤ℤ◌, ◌<ℤ◌}
use Rattle.integer.proofs.Ring.{neg-*ℤ}
use Rattle.integer.proofs.Linear.{linear, over}
use Rattle.integer.proofs.Order.{also, prod, lt_le}
use Rattle.interval.specs.Interval.{exact_sum, exact_difference}
use Rattle.interval.specs.Code.{negated}
use Rattle.interval.specs.declared.Interval.{Interval}
use Rattle.fraction.specs.Fraction.{Fraction, Inside, sum, difference, Sum, Difference}
use Rattle.fraction.specs.Meaning.{Result, Hull}
use Rattle.fraction.proofs.Inside.{same_refl, same_sym, at_least_same, opposite, opposite_opposite, negated_negated, negated_order, inside_negated, whole, low_end}
use Rattle.fraction.proofs.Hull.{result, Lower, Ends, ends_of, hull, upper_of}

sum_lower : (x y : Interval) → x.lo ≤ℤ x.hi → y.lo ≤ℤ y.hi → Lower (Result Sum x y) (x.lo +ℤ y.lo)
unfolding sum
sum_lower x y h k =
    record {
      bound = λ c r.
          let a = r.left in
          let b = r.right in
          at_least_same (x.lo +ℤ y.lo) (sum a b) c (same_sym r.exact)
          (add x.lo y.lo a.num a.den b.num b.den a.above b.above r.left_in.low r.right_in.low);
      near = record { at = sum (whole x.lo) (whole y.lo); at_in = result (low_end h) (low_end k) (same_refl _); below = reach x.lo y.lo };
    }
  where
    add : (l m p q r t : ℤ) → pos 0 <ℤ q → pos 0 <ℤ t → (l *ℤ q) ≤ℤ p → (m *ℤ t) ≤ℤ r → ((l +ℤ m) *ℤ (q *ℤ t)) ≤ℤ (p *ℤ t +ℤ r *ℤ q)
    add = over 6 _ (λ ρ n₁ n₂ h k. also (prod h (lt_le n₂)) (also (prod k (lt_le n₁)) (simp (linear, ρ) (omega arith))))

    reach : (l m : ℤ) → (l *ℤ pos 1 +ℤ m *ℤ pos 1) <ℤ ((l +ℤ m +ℤ pos 1) *ℤ (pos 1 *ℤ pos 1))
    reach = over 2 _ (λ ρ. simp (linear, ρ) (omega arith))

-- a sum changes its sign with both operands
sum_turned : (x y : Interval) (c : Fraction) → Result Sum x y c → Result Sum (negated x) (negated y) (opposite c)
unfolding sum
sum_turned x y c r =
    let a = r.left in
    let b = r.right in
    result (inside_negated r.left_in) (inside_negated r.right_in)
    (record { holds = turn a.num a.den b.num b.den c.num c.den r.exact.holds })
  where
    turn : (p q r t u w : ℤ) → u *ℤ (q *ℤ t) ≡ (p *ℤ t +ℤ r *ℤ q) *ℤ w → neg_ℤ u *ℤ (q *ℤ t) ≡ (neg_ℤ p *ℤ t +ℤ neg_ℤ r *ℤ q) *ℤ w
    turn = over 6 _ (λ ρ. simp linear (omega arith))

sum_ends : (x y : Interval) → x.lo ≤ℤ x.hi → y.lo ≤ℤ y.hi → Ends (Result Sum x y) (exact_sum x y)
unfolding exact_sum
sum_ends x y h k =
    record {
      lower = sum_lower x y h k;
      upper = rw neg_ℤ-+ℤ
          (upper_of (sum_turned x y) (λ c r. rw (negated_negated x, negated_negated y) at (sum_turned (negated x) (negated y) c r))
          (sum_lower (negated x) (negated y) (negated_order x h) (negated_order y k)));
    }

pub sum_hull : (x y : Interval) → Hull Sum x y (exact_sum x y)
sum_hull x y = hull (sum_ends x y)

-- a difference is the sum with the opposite
difference_sum : (a b : Fraction) → difference a b ≡ sum a (opposite b)
unfolding difference sum
difference_sum a b = rw neg-*ℤ

pub difference_hull : (x y : Interval) → Hull Difference x y (exact_difference x y)
unfolding exact_difference exact_sum
difference_hull x y = hull (λ h k. ends_of from into (sum_ends x (negated y) h (negated_order y k)))
  where
    into : (c : Fraction) → Result Difference x y c → Result Sum x (negated y) c
    into c r = result r.left_in (inside_negated r.right_in) (rw difference_sum at r.exact)

    from : (c : Fraction) → Result Sum x (negated y) c → Result Difference x y c
    from c r = result r.left_in (rw (negated_negated y) at (inside_negated r.right_in)) (rw (difference_sum, opposite_opposite r.right) r.exact)

-- ---- as the crates above use it
module _ {x y : Interval} {a b : Fraction} (h : Inside x a) (k : Inside y b) where
  pub sum_inside : Inside (exact_sum x y) (sum a b)
  sum_inside = (sum_hull x y).holds (sum a b) (result h k (same_refl _))

  pub difference_inside : Inside (exact_difference x y) (difference a b)
  difference_inside = (difference_hull x y).holds (difference a b) (result h k (same_refl _))
