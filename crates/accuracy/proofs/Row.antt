-- Exact rows in whole numbers, and what a step of elimination makes of one. Two things are said of a row, apart from each other: that its
-- coefficients lie inside the intervals of a list (Holds), and that some weights meet it (Met).
use mathlib.Core.Path.{◌≡◌, sym, ap, ap₂, ◌∙◌}
use mathlib.Core.Bool.{false}
use mathlib.Core.Logic.{⊎_elim}
use mathlib.Core.List.{List}
use Prim.Native.Nat.{ℕ, zero, suc, ◌+◌, ◌≤◌, ◌<◌}
use native.Mathlib.Omega.{arith}
use lib.IntN.{ℤ, pos, neg_ℤ, ◌+ℤ◌, ◌-ℤ◌, ◌*ℤ◌}
use lib.Signed.{◌<ℤ◌, <ℤ-≤ℤ_trans}
use Rattle.integer.proofs.Linear.{reading, linear, ring, over}
use Rattle.integer.proofs.Order.{both_pos, neg_pos}
use Rattle.interval.specs.declared.Interval.{Interval}
use Rattle.interval.specs.Interval.{scale, contains_zero, exact_difference, product, quotient}
use Rattle.interval.proofs.Range.{apart}
use Rattle.fraction.specs.Fraction.{Fraction, Inside, millionths, difference, product_at}
use Rattle.fraction.proofs.Inside.{inside_same, inside_negated}
use Rattle.fraction.proofs.Sum.{difference_inside}
use Rattle.fraction.proofs.Product.{product_inside}
use Rattle.fraction.proofs.Quotient.{quotient_inside}
use Rattle.inputs.specs.Place.{at, cell}
use Rattle.forward.specs.Run.{rhs}
use Rattle.accuracy.proofs.Common.{ratio, cancel_same}

-- c(j)·w(j) + c(j + 1)·w(j + 1) + .., d terms
unfoldable pub dot : (c w : ℕ → ℤ) → (d j : ℕ) → ℤ
dot c w zero j = pos 0
dot c w (suc d) j = c j *ℤ w j +ℤ dot c w d (j + 1)

-- coefficients and a right side over one denominator
pub record Row : Type 0 where
  pub left : ℕ → ℤ
  pub right : ℤ
  pub den : ℤ

-- from column s on, the coefficients of r lie inside row i of t, and its right side inside the right side there
pub record Holds (n : ℕ) (t : List ℤ) (i s : ℕ) (r : Row) : Type 0 where
  pub above : pos 0 <ℤ r.den
  pub cells : (j : ℕ) → s ≤ j → j < n → Inside (at t (cell n i j)) (ratio (r.left j) r.den above)
  pub right : Inside (at t (rhs n i)) (ratio r.right r.den above)

-- from column s on, the weights w(j)/q meet r: the sum of left(j)·w(j), over den·q and in millionths, is right over den
pub record Met (n s : ℕ) (r : Row) (w : ℕ → ℤ) (q : ℤ) : Type 0 where
  pub exact : (d : ℕ) → s + d ≡ n → dot r.left w d s ≡ scale *ℤ (r.right *ℤ q)

-- ---- the step of column k: row r less f/e times the pivot's row p, where f and e stand in column k. It is taken over e·e, whose sign is known
unfoldable pub reduce : (k : ℕ) (p r : Row) → Row
reduce k p r =
    record {
      left = λ j. p.left k *ℤ p.left k *ℤ r.left j -ℤ r.left k *ℤ p.left k *ℤ p.left j;
      right = p.left k *ℤ p.left k *ℤ r.right -ℤ r.left k *ℤ p.left k *ℤ p.right;
      den = r.den *ℤ (p.left k *ℤ p.left k);
    }

-- a fraction inside an interval without 0 has a numerator other than 0
pub square_above : {v : Interval} {a : Fraction} → contains_zero v ≡ false → Inside v a → pos 0 <ℤ (a.num *ℤ a.num)
square_above {v} {a} z h = ⊎_elim (λ n. square (up h n)) (λ n. turned a.num (square (up (inside_negated h) (neg_pos n)))) (apart v z)
  where
    square : {z : ℤ} → pos 0 <ℤ z → pos 0 <ℤ (z *ℤ z)
    square {z} h = both_pos z z h h

    up : {v : Interval} {a : Fraction} → Inside v a → pos 0 <ℤ v.lo → pos 0 <ℤ a.num
    up {v} {a} h n = <ℤ-≤ℤ_trans (both_pos v.lo a.den n a.above) h.low

    turned : (z : ℤ) → pos 0 <ℤ (neg_ℤ z *ℤ neg_ℤ z) → pos 0 <ℤ (z *ℤ z)
    turned = over 1 _ (λ ρ. simp (linear, ρ) (omega arith))

-- ---- inside the intervals: f over q is divided by e over r, which gives f·e·r over q·e·e, in millionths
module _ (f e q r : ℤ) (q-above : pos 0 <ℤ q) (r-above : pos 0 <ℤ r) (e-above : pos 0 <ℤ (e *ℤ e)) where
  abbrev pub factor : Fraction
  factor = ratio (f *ℤ e *ℤ r *ℤ scale) (q *ℤ (e *ℤ e)) (both_pos q (e *ℤ e) q-above e-above)

  pub factor_inside : {x y : Interval} → contains_zero y ≡ false → Inside x (ratio f q q-above) → Inside y (ratio e r r-above) → Inside (quotient x y) factor
  unfolding product_at
  factor_inside z h k = quotient_inside millionths z h k (record { holds = exact f e q r scale })
    where
      exact : (f e q r s : ℤ) → ((f *ℤ e *ℤ r *ℤ s) *ℤ e) *ℤ q ≡ f *ℤ (q *ℤ (e *ℤ e) *ℤ r *ℤ s)
      exact = over 5 _ (λ ρ. simp reading (ring _ _ _ tt))

  -- a less the factor times b
  pub reduced_inside : {x y m : Interval} (a b : ℤ) → Inside x (ratio a q q-above) → Inside y (ratio b r r-above) → Inside m factor →
      Inside (exact_difference x (product m y)) (ratio (e *ℤ e *ℤ a -ℤ f *ℤ e *ℤ b) (q *ℤ (e *ℤ e)) (both_pos q (e *ℤ e) q-above e-above))
  unfolding difference product_at
  reduced_inside a b h k g = inside_same (record { holds = exact f e q r scale a b }) (difference_inside h (product_inside millionths g k))
    where
      exact : (f e q r s a b : ℤ) →
          (a *ℤ (q *ℤ (e *ℤ e) *ℤ r *ℤ s) -ℤ ((f *ℤ e *ℤ r *ℤ s) *ℤ b) *ℤ q) *ℤ (q *ℤ (e *ℤ e))
          ≡ (e *ℤ e *ℤ a -ℤ f *ℤ e *ℤ b) *ℤ (q *ℤ (q *ℤ (e *ℤ e) *ℤ r *ℤ s))
      exact = over 7 _ (λ ρ. simp reading (ring _ _ _ tt))

-- ---- the weights: they meet the new row exactly if they meet the old one, where they meet the pivot's
pub dot_difference : (u v : ℤ) (a b w : ℕ → ℤ) (d j : ℕ) → dot (λ l. u *ℤ a l -ℤ v *ℤ b l) w d j ≡ u *ℤ dot a w d j -ℤ v *ℤ dot b w d j
unfolding dot
dot_difference u v a b w zero j = none u v
  where
    none : (u v : ℤ) → pos 0 ≡ u *ℤ pos 0 -ℤ v *ℤ pos 0
    none = over 2 _ (λ ρ. simp (linear, ρ) (omega arith))
dot_difference u v a b w (suc d) j =
    ap (λ z. (u *ℤ a j -ℤ v *ℤ b j) *ℤ w j +ℤ z) (dot_difference u v a b w d (j + 1)) ∙ more u v (a j) (b j) (w j) (dot a w d (j + 1)) (dot b w d (j + 1))
  where
    more : (u v a b x s t : ℤ) → (u *ℤ a -ℤ v *ℤ b) *ℤ x +ℤ (u *ℤ s -ℤ v *ℤ t) ≡ u *ℤ (a *ℤ x +ℤ s) -ℤ v *ℤ (b *ℤ x +ℤ t)
    more = over 7 _ (λ ρ. simp reading (ring _ _ _ tt))

-- by what the two sides of the new row differ, in those of the old one and of the pivot's
sides : (f e x s t n g h q : ℤ) →
    (e *ℤ e *ℤ (f *ℤ x +ℤ s) -ℤ f *ℤ e *ℤ (e *ℤ x +ℤ t)) +ℤ n *ℤ ((e *ℤ e *ℤ g -ℤ f *ℤ e *ℤ h) *ℤ q)
    ≡ (e *ℤ e *ℤ (n *ℤ (g *ℤ q)) -ℤ f *ℤ e *ℤ (n *ℤ (h *ℤ q))) +ℤ (e *ℤ e *ℤ s -ℤ f *ℤ e *ℤ t)
sides = over 9 _ (λ ρ. simp reading (ring _ _ _ tt))

module _ {n k : ℕ} {p r : Row} {w : ℕ → ℤ} {q : ℤ} (pivot : Met n k p w q) where
  pub met_reduced : Met n k r w q → Met n (k + 1) (reduce k p r) w q
  unfolding reduce dot
  met_reduced m = record { exact = go }
    where
      move : (a b c d : ℤ) → a +ℤ d ≡ b +ℤ c → a ≡ b → c ≡ d
      move = over 4 _ (λ ρ. simp linear (omega arith))

      go : (d : ℕ) → k + 1 + d ≡ n → dot (reduce k p r).left w d (k + 1) ≡ scale *ℤ ((reduce k p r).right *ℤ q)
      go d l =
          let e = p.left k in
          let f = r.left k in
          let s = dot r.left w d (k + 1) in
          let t = dot p.left w d (k + 1) in
          dot_difference (e *ℤ e) (f *ℤ e) r.left p.left w d (k + 1) ∙
          move _ _ _ _ (sides f e (w k) s t scale r.right p.right q)
          (ap₂ (λ y z. e *ℤ e *ℤ y -ℤ f *ℤ e *ℤ z) (m.exact (suc d) (omega arith)) (pivot.exact (suc d) (omega arith)))

  pub met_unreduced : k < n → pos 0 <ℤ (p.left k *ℤ p.left k) → Met n (k + 1) (reduce k p r) w q → Met n k r w q
  unfolding reduce dot
  met_unreduced b above m = record { exact = go }
    where
      move : (u v a b c d g h : ℤ) → (u *ℤ a -ℤ v *ℤ b) +ℤ h ≡ (u *ℤ c -ℤ v *ℤ d) +ℤ g → g ≡ h → v *ℤ b ≡ v *ℤ d → a *ℤ u ≡ c *ℤ u
      move = over 8 _ (λ ρ. simp linear (omega arith))

      go : (d : ℕ) → k + d ≡ n → dot r.left w d k ≡ scale *ℤ (r.right *ℤ q)
      go zero l = absurd (omega arith)
      go (suc d) l =
          let e = p.left k in
          let f = r.left k in
          let s = dot r.left w d (k + 1) in
          let t = dot p.left w d (k + 1) in
          cancel_same _ _ (e *ℤ e) above
          (move (e *ℤ e) (f *ℤ e) _ _ _ _ _ _ (sides f e (w k) s t scale r.right p.right q)
          (sym (dot_difference (e *ℤ e) (f *ℤ e) r.left p.left w d (k + 1)) ∙ m.exact d (omega arith))
          (ap (λ z. f *ℤ e *ℤ z) (pivot.exact (suc d) (omega arith))))
