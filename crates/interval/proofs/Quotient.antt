-- The ends of a quotient by a positive interval, and a negative divisor turned into a positive one.
use mathlib.Core.Path.{◌≡◌, sym, ap, ◌∙◌}
use lib.IntN.{ℤ, pos, neg_ℤ, ◌*ℤ◌, neg_ℤ-neg_ℤ}
use lib.Signed.{◌≤ℤ◌, ◌<ℤ◌, <ℤ-≤ℤ_trans}
use Rattle.integer.specs.Rounding.{floor_div, ceil_div}
use Rattle.integer.specs.Extremes.{minimum, maximum}
use Rattle.integer.proofs.Linear.{reading, ring, over}
use Rattle.integer.proofs.Order.{trans, le_lt_trans, mono, neg_pos}
use Rattle.integer.proofs.Rounding.{floor_mono, ceil_mono, floor_turn, ceil_turn}
use Rattle.integer.proofs.Extremes.{min_le_left, min_le_right, le_max_left, le_max_right, le_min, max_le, min_is_left, max_is_right}
use Rattle.interval.specs.declared.Interval.{Interval}
use Rattle.interval.specs.Interval.{quotient_at}
use Rattle.interval.specs.Code.{negated}
use Rattle.interval.proofs.Range.{same_ends}
use Rattle.interval.proofs.Corners.{least_back, greatest_back}

-- ---- a ≤ b over 0 < c ≤ d: the lowest floor is one of a's, the highest ceiling one of b's
pub positive : (s : ℤ) (x y : Interval) → pos 0 ≤ℤ s → x.lo ≤ℤ x.hi → pos 0 <ℤ y.lo → y.lo ≤ℤ y.hi
    → ((quotient_at s x y).lo ≡ minimum (floor_div (x.lo *ℤ s) y.lo) (floor_div (x.lo *ℤ s) y.hi))
    × ((quotient_at s x y).hi ≡ maximum (ceil_div (x.hi *ℤ s) y.lo) (ceil_div (x.hi *ℤ s) y.hi))
unfolding quotient_at
positive s x y n o h l =
    let k = <ℤ-≤ℤ_trans h l in
    let m = mono x.lo x.hi s n o in (
      min_is_left (min_mono (floor_mono _ _ y.lo h m) (floor_mono _ _ y.hi k m)),
      max_is_right (max_mono (ceil_mono _ _ y.lo h m) (ceil_mono _ _ y.hi k m)),
    )
  where
    min_mono : {p q r t : ℤ} → p ≤ℤ r → q ≤ℤ t → minimum p q ≤ℤ minimum r t
    min_mono {p} {q} {r} {t} h k = le_min r t _ (trans (min_le_left p q) h) (trans (min_le_right p q) k)

    max_mono : {p q r t : ℤ} → p ≤ℤ r → q ≤ℤ t → maximum p q ≤ℤ maximum r t
    max_mono {p} {q} {r} {t} h k = max_le p q _ (trans h (le_max_left r t)) (trans k (le_max_right r t))

-- ---- a divisor below 0
neg_mul : (a s : ℤ) → neg_ℤ a *ℤ s ≡ neg_ℤ (a *ℤ s)
neg_mul = over 2 _ (λ ρ. simp reading (ring _ _ _ tt))

module _ (a s d : ℤ) (n : d <ℤ pos 0) where
  pub floor_negative : floor_div (neg_ℤ a *ℤ s) (neg_ℤ d) ≡ floor_div (a *ℤ s) d
  floor_negative = ap (λ z. floor_div z (neg_ℤ d)) (neg_mul a s) ∙ sym (floor_turn (a *ℤ s) (neg_ℤ d) (neg_pos n)) ∙ ap (floor_div (a *ℤ s)) (neg_ℤ-neg_ℤ d)

  pub ceil_negative : ceil_div (neg_ℤ a *ℤ s) (neg_ℤ d) ≡ ceil_div (a *ℤ s) d
  ceil_negative = ap (λ z. ceil_div z (neg_ℤ d)) (neg_mul a s) ∙ sym (ceil_turn (a *ℤ s) (neg_ℤ d) (neg_pos n)) ∙ ap (ceil_div (a *ℤ s)) (neg_ℤ-neg_ℤ d)

pub quotient_turned : (s : ℤ) (x y : Interval) → y.lo ≤ℤ y.hi → y.hi <ℤ pos 0 → quotient_at s (negated x) (negated y) ≡ quotient_at s x y
unfolding quotient_at
quotient_turned s x y o n =
    let m = le_lt_trans o n in
    same_ends _ _
    (rw (floor_negative x.lo s y.lo m, floor_negative x.lo s y.hi n, floor_negative x.hi s y.lo m, floor_negative x.hi s y.hi n) (least_back _ _ _ _))
    (rw (ceil_negative x.lo s y.lo m, ceil_negative x.lo s y.hi n, ceil_negative x.hi s y.lo m, ceil_negative x.hi s y.hi n) (greatest_back _ _ _ _))
