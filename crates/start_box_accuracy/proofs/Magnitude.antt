-- Magnitudes: what lies inside an interval is at most its magnitude from 0, and what lies beyond it is so much farther away.
use native.Mathlib.Omega.{arith}
use lib.IntN.{ℤ, pos, neg_ℤ, ◌+ℤ◌, ◌-ℤ◌, ◌*ℤ◌}
use lib.Signed.{◌≤ℤ◌, ◌<ℤ◌}
use Rattle.integer.specs.Extremes.{maximum}
use Rattle.integer.proofs.Linear.{linear, over}
use Rattle.integer.proofs.Order.{also, prod, trans, lt_le}
use Rattle.integer.proofs.Extremes.{max_ind, le_max_left, le_max_right, max_le}
use Rattle.interval.specs.declared.Interval.{Interval}
use Rattle.fraction.specs.Fraction.{Fraction, Inside}
use Rattle.start_box.specs.Sums.{absolute, magnitude}
use Rattle.start_box.proofs.Magnitude.{absolute_above}

-- p is at most m from 0
abbrev pub AtMost : (m p : ℤ) → Type 0
AtMost m p = (neg_ℤ m ≤ℤ p) × (p ≤ℤ m)

module _ (z : ℤ) where
  absolute_high : z ≤ℤ absolute z
  unfolding absolute
  absolute_high = le_max_left z (neg_ℤ z)

  absolute_low : neg_ℤ z ≤ℤ absolute z
  unfolding absolute
  absolute_low = le_max_right z (neg_ℤ z)

  pub absolute_both : AtMost (absolute z) z
  absolute_both = go z (absolute z) absolute_low absolute_high
    where
      go : (z a : ℤ) → neg_ℤ z ≤ℤ a → z ≤ℤ a → AtMost a z
      go = over 2 _ (λ ρ. simp linear (omega arith))

-- ---- the two ends of an interval
module _ (v : Interval) where
  magnitude_high : v.hi ≤ℤ magnitude v
  unfolding magnitude
  magnitude_high = trans (absolute_high v.hi) (le_max_right (absolute v.lo) (absolute v.hi))

  magnitude_low : neg_ℤ v.lo ≤ℤ magnitude v
  unfolding magnitude
  magnitude_low = trans (absolute_low v.lo) (le_max_left (absolute v.lo) (absolute v.hi))

  pub magnitude_above : pos 0 ≤ℤ magnitude v
  unfolding magnitude
  magnitude_above = trans (absolute_above v.lo) (le_max_left (absolute v.lo) (absolute v.hi))

-- ---- what lies inside
pub inside_magnitude : {v : Interval} {a : Fraction} → Inside v a → AtMost (magnitude v *ℤ a.den) a.num
inside_magnitude {v} {a} h = go v.lo v.hi (magnitude v) a.num a.den a.above (magnitude_low v) (magnitude_high v) h.low h.high
  where
    go : (l u m p q : ℤ) → pos 0 <ℤ q → neg_ℤ l ≤ℤ m → u ≤ℤ m → (l *ℤ q) ≤ℤ p → p ≤ℤ (u *ℤ q) → AtMost (m *ℤ q) p
    go = over 5 _ (λ ρ n a b. also (prod a (lt_le n)) (also (prod b (lt_le n)) (simp (linear, ρ) (omega arith))))

-- ---- by how many q-ths p/q lies beyond an interval; 0 where it lies inside
unfoldable pub beyond : Interval → (p q : ℤ) → ℤ
beyond v p q = maximum (pos 0) (maximum (p -ℤ v.hi *ℤ q) (v.lo *ℤ q -ℤ p))

module _ (v : Interval) (p q : ℤ) where
  abbrev high : ℤ
  high = p -ℤ v.hi *ℤ q

  abbrev low : ℤ
  low = v.lo *ℤ q -ℤ p

  pub beyond_above : pos 0 ≤ℤ beyond v p q
  unfolding beyond
  beyond_above = le_max_left (pos 0) (maximum high low)

  pub beyond_high : high ≤ℤ beyond v p q
  unfolding beyond
  beyond_high = trans (le_max_left high low) (le_max_right (pos 0) (maximum high low))

  pub beyond_low : low ≤ℤ beyond v p q
  unfolding beyond
  beyond_low = trans (le_max_right high low) (le_max_right (pos 0) (maximum high low))

  pub beyond_ind : (P : ℤ → Type 0) → P (pos 0) → P high → P low → P (beyond v p q)
  unfolding beyond
  beyond_ind P a b c = max_ind (pos 0) (maximum high low) P (λ e. max_ind high low P (λ f. c) (λ f. b)) (λ e. a)

  -- p/q is at most that and the magnitude from 0
  pub beyond_magnitude : pos 0 <ℤ q → absolute p ≤ℤ (beyond v p q +ℤ magnitude v *ℤ q)
  unfolding absolute
  beyond_magnitude h =
      max_le p (neg_ℤ p) _
      (up v.hi (magnitude v) p q (beyond v p q) h (magnitude_high v) beyond_high)
      (down v.lo (magnitude v) p q (beyond v p q) h (magnitude_low v) beyond_low)
    where
      up : (u m p q y : ℤ) → pos 0 <ℤ q → u ≤ℤ m → (p -ℤ u *ℤ q) ≤ℤ y → p ≤ℤ (y +ℤ m *ℤ q)
      up = over 5 _ (λ ρ n h k. also (prod h (lt_le n)) (also k (simp (linear, ρ) (omega arith))))

      down : (l m p q y : ℤ) → pos 0 <ℤ q → neg_ℤ l ≤ℤ m → (l *ℤ q -ℤ p) ≤ℤ y → neg_ℤ p ≤ℤ (y +ℤ m *ℤ q)
      down = over 5 _ (λ ρ n h k. also (prod h (lt_le n)) (also k (simp (linear, ρ) (omega arith))))
