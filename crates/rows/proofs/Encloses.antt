-- A row that is rounded once encloses the exact sum, for any number of products.
use mathlib.Core.List.{List}
use Prim.Native.Nat.{ℕ, zero, suc, ◌+◌, ◌<◌}
use native.Mathlib.Omega.{arith}
use lib.IntN.{ℤ, pos, ◌+ℤ◌, ◌*ℤ◌}
use lib.Signed.{◌≤ℤ◌, ◌<ℤ◌}
use Rattle.integer.specs.Rounding.{floor_div, ceil_div}
use Rattle.integer.proofs.Linear.{linear, over}
use Rattle.integer.proofs.Order.{also, prod, lt_le, cancel, corners}
use Rattle.integer.proofs.Rounding.{floor_low, ceil_high}
use Rattle.interval.specs.declared.Interval.{Interval}
use Rattle.interval.specs.Interval.{scale, least_product, greatest_product, exact_sum, exact_product, rounded, zero as noughtInterval}
use Rattle.interval.proofs.Range.{scale_above}
use Rattle.interval.proofs.Corners.{least_first, least_second, least_third, least_fourth, greatest_first, greatest_second, greatest_third, greatest_fourth}
use Rattle.fraction.specs.Fraction.{Fraction, Inside, millionths, sum, product_at}
use Rattle.inputs.specs.Place.{at}
use Rattle.rows.specs.Sum.{exactly, once}
use Rattle.rows.specs.Exact.{nought, exact_row, OnceEncloses}
use Rattle.rows.proofs.Once.{upper_corners}

-- a, in parts of a unit, lies inside v
record Parts (v : Interval) (a : Fraction) : Type 0 where
  low : (v.lo *ℤ a.den) ≤ℤ (scale *ℤ a.num)
  high : (scale *ℤ a.num) ≤ℤ (v.hi *ℤ a.den)

parts_sum : {v w : Interval} {a b : Fraction} → Parts v a → Parts w b → Parts (exact_sum v w) (sum a b)
unfolding exact_sum sum
parts_sum {v} {w} {a} {b} h k =
    record {
      low = lows v.lo w.lo a.num a.den b.num b.den scale a.above b.above h.low k.low;
      high = highs v.hi w.hi a.num a.den b.num b.den scale a.above b.above h.high k.high;
    }
  where
    lows : (v w m a n b s : ℤ) → pos 0 <ℤ a → pos 0 <ℤ b → (v *ℤ a) ≤ℤ (s *ℤ m) → (w *ℤ b) ≤ℤ (s *ℤ n) → ((v +ℤ w) *ℤ (a *ℤ b)) ≤ℤ (s *ℤ (m *ℤ b +ℤ n *ℤ a))
    lows = over 7 _ (λ ρ p q h k. also (prod h (lt_le q)) (also (prod k (lt_le p)) (simp (linear, ρ) (omega arith))))

    highs : (v w m a n b s : ℤ) → pos 0 <ℤ a → pos 0 <ℤ b → (s *ℤ m) ≤ℤ (v *ℤ a) → (s *ℤ n) ≤ℤ (w *ℤ b) → (s *ℤ (m *ℤ b +ℤ n *ℤ a)) ≤ℤ ((v +ℤ w) *ℤ (a *ℤ b))
    highs = over 7 _ (λ ρ p q h k. also (prod h (lt_le q)) (also (prod k (lt_le p)) (simp (linear, ρ) (omega arith))))

module _ {x y : Interval} {a b : Fraction} (h : Inside x a) (k : Inside y b) where
  lowest_part : (least_product x y *ℤ (a.den *ℤ b.den)) ≤ℤ (a.num *ℤ b.num)
  lowest_part =
      corners (x.lo *ℤ a.den) (x.hi *ℤ a.den) (y.lo *ℤ b.den) (y.hi *ℤ b.den) a.num b.num _ h.low h.high k.low k.high
      (at' x.lo y.lo (least_first _ _ _ _)) (at' x.lo y.hi (least_second _ _ _ _)) (at' x.hi y.lo (least_third _ _ _ _)) (at' x.hi y.hi (least_fourth _ _ _ _))
    where
      grow : (f u v q t : ℤ) → pos 0 <ℤ q → pos 0 <ℤ t → f ≤ℤ (u *ℤ v) → (f *ℤ (q *ℤ t)) ≤ℤ ((u *ℤ q) *ℤ (v *ℤ t))
      grow = over 5 _ (λ ρ h k e. also (prod e (prod (lt_le h) (lt_le k))) (simp (linear, ρ) (omega arith)))

      at' : (u v : ℤ) → least_product x y ≤ℤ (u *ℤ v) → (least_product x y *ℤ (a.den *ℤ b.den)) ≤ℤ ((u *ℤ a.den) *ℤ (v *ℤ b.den))
      at' u v l = grow (least_product x y) u v a.den b.den a.above b.above l

  highest_part : (a.num *ℤ b.num) ≤ℤ (greatest_product x y *ℤ (a.den *ℤ b.den))
  highest_part =
      upper_corners (x.lo *ℤ a.den) (x.hi *ℤ a.den) (y.lo *ℤ b.den) (y.hi *ℤ b.den) a.num b.num _ h.low h.high k.low k.high
      (at' x.lo y.lo (greatest_first _ _ _ _)) (at' x.lo y.hi (greatest_second _ _ _ _)) (at' x.hi y.lo (greatest_third _ _ _ _)) (at' x.hi y.hi (greatest_fourth _ _ _ _))
    where
      grow : (f u v q t : ℤ) → pos 0 <ℤ q → pos 0 <ℤ t → (u *ℤ v) ≤ℤ f → ((u *ℤ q) *ℤ (v *ℤ t)) ≤ℤ (f *ℤ (q *ℤ t))
      grow = over 5 _ (λ ρ h k e. also (prod e (prod (lt_le h) (lt_le k))) (simp (linear, ρ) (omega arith)))

      at' : (u v : ℤ) → (u *ℤ v) ≤ℤ greatest_product x y → ((u *ℤ a.den) *ℤ (v *ℤ b.den)) ≤ℤ (greatest_product x y *ℤ (a.den *ℤ b.den))
      at' u v l = grow (greatest_product x y) u v a.den b.den a.above b.above l

  parts_product : Parts (exact_product x y) (product_at millionths a b)
  unfolding exact_product product_at
  parts_product =
      record {
        low = lows (least_product x y) (a.den *ℤ b.den) scale (a.num *ℤ b.num) (lt_le scale_above) lowest_part;
        high = highs (greatest_product x y) (a.den *ℤ b.den) scale (a.num *ℤ b.num) (lt_le scale_above) highest_part;
      }
    where
      lows : (l d s m : ℤ) → pos 0 ≤ℤ s → (l *ℤ d) ≤ℤ m → (l *ℤ (d *ℤ s)) ≤ℤ (s *ℤ m)
      lows = over 4 _ (λ ρ p h. also (prod h p) (simp (linear, ρ) (omega arith)))

      highs : (l d s m : ℤ) → pos 0 ≤ℤ s → m ≤ℤ (l *ℤ d) → (s *ℤ m) ≤ℤ (l *ℤ (d *ℤ s))
      highs = over 4 _ (λ ρ p h. also (prod h p) (simp (linear, ρ) (omega arith)))

parts_rounded : {v : Interval} {a : Fraction} → Parts v a → Inside (rounded scale v) a
unfolding rounded
parts_rounded {v} {a} h =
    record {
      low = cancel _ _ scale scale_above (lows (floor_div v.lo scale) v.lo scale a.den a.num a.above (floor_low v.lo scale scale_above) h.low);
      high = cancel _ _ scale scale_above (highs (ceil_div v.hi scale) v.hi scale a.den a.num a.above (ceil_high v.hi scale scale_above) h.high);
    }
  where
    lows : (f v s d m : ℤ) → pos 0 <ℤ d → (f *ℤ s) ≤ℤ v → (v *ℤ d) ≤ℤ (s *ℤ m) → ((f *ℤ d) *ℤ s) ≤ℤ (m *ℤ s)
    lows = over 5 _ (λ ρ p e h. also (prod e (lt_le p)) (also h (simp (linear, ρ) (omega arith))))

    highs : (f v s d m : ℤ) → pos 0 <ℤ d → v ≤ℤ (f *ℤ s) → (s *ℤ m) ≤ℤ (v *ℤ d) → (m *ℤ s) ≤ℤ ((f *ℤ d) *ℤ s)
    highs = over 5 _ (λ ρ p e h. also (prod e (lt_le p)) (also h (simp (linear, ρ) (omega arith))))

parts_nought : Parts noughtInterval nought
parts_nought = record { low = low scale; high = high scale }
  where
    low : (s : ℤ) → (pos 0 *ℤ pos 1) ≤ℤ (s *ℤ pos 0)
    low = over 1 _ (λ ρ. simp (linear, ρ) (omega arith))

    high : (s : ℤ) → (s *ℤ pos 0) ≤ℤ (pos 0 *ℤ pos 1)
    high = over 1 _ (λ ρ. simp (linear, ρ) (omega arith))

module _ (m : List ℤ) (p : ℕ) (x : List ℤ) (q : ℕ) (c w : ℕ → Fraction) where
  exactly_parts : (d j : ℕ) (v : Interval) (a : Fraction) → ((i : ℕ) → i < j + d → Inside (at m (p + i)) (c i)) → ((i : ℕ) → i < j + d → Inside (at x (q + i)) (w i)) →
      Parts v a → Parts (exactly m p x q d j v) (exact_row c w d j a)
  unfolding exactly exact_row
  exactly_parts zero j v a h k i = i
  exactly_parts (suc d) j v a h k i =
      exactly_parts d (j + 1) _ _ (λ t l. h t (omega arith)) (λ t l. k t (omega arith)) (parts_sum i (parts_product (h j (omega arith)) (k j (omega arith))))

pub once_encloses : OnceEncloses
unfolding once
once_encloses =
    record { holds = λ m p x q d c w h k. parts_rounded (exactly_parts m p x q c w d 0 _ _ (λ i l. h i (omega arith)) (λ i l. k i (omega arith)) parts_nought) }
