-- Row i of a balance for weights over one denominator: by how much they lie beyond b is at most what the matrix makes of their magnitudes.
use mathlib.Core.Path.{◌≡◌}
use Prim.Native.Nat.{ℕ, zero, suc, ◌+◌, ◌≤◌, ◌<◌}
use native.Mathlib.Omega.{arith}
use lib.IntN.{ℤ, pos, ◌+ℤ◌, ◌-ℤ◌, ◌*ℤ◌}
use lib.Signed.{◌≤ℤ◌, ◌<ℤ◌}
use Rattle.integer.specs.Rounding.{ceil_div}
use Rattle.integer.specs.Total.{total}
use Rattle.integer.proofs.Linear.{linear, over}
use Rattle.integer.proofs.Order.{also, prod, trans, lt_le, cancel, both_pos}
use Rattle.integer.proofs.Rounding.{ceil_high}
use Rattle.integer.proofs.Total.{total_mono, total_add, total_factor}
use Rattle.interval.specs.Interval.{scale}
use Rattle.interval.proofs.Range.{scale_above}
use Rattle.fraction.specs.Fraction.{Fraction, Inside}
use Rattle.fraction.proofs.Inside.{same_sym, inside_same}
use Rattle.inputs.specs.Place.{at}
use Rattle.inputs.specs.System.{System}
use Rattle.accuracy.specs.Solution.{Choice, Meets}
use Rattle.accuracy.proofs.Common.{ratio, Common, common}
use Rattle.accuracy.proofs.Row.{dot}
use Rattle.accuracy.proofs.Balance.{den, den_above, over_den, delivered, coefficient_same, delivered_same, balance_whole}
use Rattle.start_box.specs.Sums.{absolute}
use Rattle.start_box.specs.Reach.{coefficients, constants, dividend}
use Rattle.start_box_accuracy.proofs.Magnitude.{AtMost, absolute_both, magnitude_above, inside_magnitude, beyond, beyond_ind, beyond_magnitude}

-- ---- a sum of products, each c(l) at most m(l)·e from 0
dot_within : (c w m : ℕ → ℤ) (e : ℤ) (d j : ℕ) → ((l : ℕ) → j ≤ l → l < j + d → AtMost (m l *ℤ e) (c l)) → AtMost (total (λ l. m l *ℤ absolute (w l)) d j *ℤ e) (dot c w d j)
unfolding dot total
dot_within c w m e zero j h = none e
  where
    none : (e : ℤ) → AtMost (pos 0 *ℤ e) (pos 0)
    none = over 1 _ (λ ρ. simp (linear, ρ) (omega arith))
dot_within c w m e (suc d) j h =
    more (m j *ℤ absolute (w j)) (total (λ l. m l *ℤ absolute (w l)) d (j + 1)) e (c j *ℤ w j) (dot c w d (j + 1))
    (term (c j) (w j) (m j) (absolute (w j)) e (h j (omega arith) (omega arith)) (absolute_both (w j)))
    (dot_within c w m e d (j + 1) (λ l a b. h l (omega arith) (omega arith)))
  where
    term : (c w m v e : ℤ) → AtMost (m *ℤ e) c → AtMost v w → AtMost ((m *ℤ v) *ℤ e) (c *ℤ w)
    term = over 5 _ (λ ρ h k. also (prod h.0 k.0) (also (prod h.0 k.1) (also (prod h.1 k.0) (also (prod h.1 k.1) (simp (linear, ρ) (omega arith))))))

    more : (t u e p q : ℤ) → AtMost (t *ℤ e) p → AtMost (u *ℤ e) q → AtMost ((t +ℤ u) *ℤ e) (p +ℤ q)
    more = over 5 _ (λ ρ. simp linear (omega arith))

-- ---- weights over one denominator, and by how much each lies beyond its interval of b
module _ (s : System) (x : ℕ → Fraction) where
  abbrev pub weights : Common s.size x
  weights = common s.size x

  abbrev pub outside : ℕ → ℤ
  outside j = beyond (at s.right j) (weights.num j) weights.den

  -- ---- a row that they meet
  module _ (c : Choice s) (m : Meets s c x) (i : ℕ) (h : i < s.size) where
    abbrev row_den : ℤ
    row_den = den s.size (c.coefficient i) (c.constant i)

    abbrev delivery : Fraction
    delivery = ratio (delivered s.size (c.coefficient i) (c.constant i)) row_den (den_above s.size (c.coefficient i) (c.constant i))

    delivery_in : Inside (at s.right i) delivery
    delivery_in = inside_same (same_sym (delivered_same s.size (c.coefficient i) (c.constant i))) (c.constant_in i h)

    -- what row i of |B| makes of the weights' magnitudes
    abbrev made : ℤ
    made = total (λ j. coefficients s i j *ℤ absolute (weights.num j)) s.size 0

    sum_within : AtMost (made *ℤ row_den) (dot (over_den s.size (c.coefficient i) (c.constant i)) weights.num s.size 0)
    sum_within =
        dot_within _ weights.num (coefficients s i) row_den s.size 0
        (λ j a b. inside_magnitude (inside_same (same_sym (coefficient_same s.size (c.coefficient i) (c.constant i) j (omega arith))) (c.coefficient_in i j h (omega arith))))

    row : (outside i *ℤ scale) ≤ℤ made
    row =
        let v = at s.right i in
        let w = weights.num i in
        let q = weights.den in
        let above = lt_le (both_pos scale q scale_above weights.above) in
        let whole = balance_whole s.size (c.coefficient i) (c.constant i) x i h (m.row i h) in
        cancel _ _ row_den delivery.above
        (beyond_ind v w q (λ z. ((z *ℤ scale) *ℤ row_den) ≤ℤ (made *ℤ row_den))
        (none scale row_den _ made sum_within)
        (high w v.hi q scale row_den delivery.num _ made above delivery_in.high whole sum_within)
        (low w v.lo q scale row_den delivery.num _ made above delivery_in.low whole sum_within))
      where
        none : (s e d t : ℤ) → AtMost (t *ℤ e) d → ((pos 0 *ℤ s) *ℤ e) ≤ℤ (t *ℤ e)
        none = over 4 _ (λ ρ. simp (linear, ρ) (omega arith))

        high : (w u q s e g d t : ℤ) → pos 0 ≤ℤ (s *ℤ q) → g ≤ℤ (u *ℤ e) → e *ℤ s *ℤ w ≡ s *ℤ (g *ℤ q) +ℤ d → AtMost (t *ℤ e) d → (((w -ℤ u *ℤ q) *ℤ s) *ℤ e) ≤ℤ (t *ℤ e)
        high = over 8 _ (λ ρ a h. also (prod h a) (simp (linear, ρ) (omega arith)))

        low : (w l q s e g d t : ℤ) → pos 0 ≤ℤ (s *ℤ q) → (l *ℤ e) ≤ℤ g → e *ℤ s *ℤ w ≡ s *ℤ (g *ℤ q) +ℤ d → AtMost (t *ℤ e) d → (((l *ℤ q -ℤ w) *ℤ s) *ℤ e) ≤ℤ (t *ℤ e)
        low = over 8 _ (λ ρ a h. also (prod h a) (simp (linear, ρ) (omega arith)))

    -- ---- a weight is at most |b| and what lies beyond b from 0, and a product with |b| at most its rounded one
    abbrev rounded : ℕ → ℤ
    rounded j = ceil_div (coefficients s i j *ℤ constants s j) scale

    product_within : (j : ℕ) → (coefficients s i j *ℤ absolute (weights.num j)) ≤ℤ (coefficients s i j *ℤ outside j +ℤ rounded j *ℤ (scale *ℤ weights.den))
    product_within j =
        go (coefficients s i j) (absolute (weights.num j)) (outside j) (constants s j) (rounded j) scale weights.den (magnitude_above _) weights.above
        (beyond_magnitude (at s.right j) (weights.num j) weights.den weights.above) (ceil_high (coefficients s i j *ℤ constants s j) scale scale_above)
      where
        go : (m v y b z s q : ℤ) → pos 0 ≤ℤ m → pos 0 <ℤ q → v ≤ℤ (y +ℤ b *ℤ q) → (m *ℤ b) ≤ℤ (z *ℤ s) → (m *ℤ v) ≤ℤ (m *ℤ y +ℤ z *ℤ (s *ℤ q))
        go = over 7 _ (λ ρ a n h k. also (prod h a) (also (prod k (lt_le n)) (simp (linear, ρ) (omega arith))))

    pub row_beyond : (outside i *ℤ scale) ≤ℤ (total (λ j. coefficients s i j *ℤ outside j) s.size 0 +ℤ dividend s i *ℤ (scale *ℤ weights.den))
    unfolding dividend
    row_beyond =
        let k = scale *ℤ weights.den in
        trans row
        (rw (total_add (λ j. coefficients s i j *ℤ outside j) (λ j. rounded j *ℤ k) s.size 0, total_factor k rounded s.size 0) at
        (total_mono _ (λ j. coefficients s i j *ℤ outside j +ℤ rounded j *ℤ k) s.size 0 (λ j a b. product_within j)))
