-- A row that is rounded once lies inside one whose products are rounded singly, also if it is taken of narrower intervals, and inside one
-- of wider intervals that is rounded once; its ends are in sequence.
use mathlib.Core.List.{List}
use Prim.Native.Nat.{ℕ, zero, suc, ◌+◌, ◌<◌}
use native.Mathlib.Omega.{arith}
use lib.IntN.{ℤ, pos, neg_ℤ, ◌+ℤ◌, ◌*ℤ◌}
use lib.Signed.{◌≤ℤ◌, ≤ℤ_refl}
use Rattle.integer.proofs.Linear.{linear, over}
use Rattle.integer.proofs.Order.{trans, corners}
use Rattle.integer.proofs.Rounding.{floor_low, floor_iff, ceil_high, ceil_iff}
use Rattle.interval.specs.declared.Interval.{Interval}
use Rattle.interval.specs.Interval.{scale, least_product, greatest_product, exact_sum, exact_product, rounded, product_at, zero as nought}
use Rattle.interval.proofs.Range.{scale_above}
use Rattle.interval.proofs.Corners.{least_ind, greatest_ind, least_first, least_second, least_third, least_fourth, greatest_first, greatest_second, greatest_third, greatest_fourth}
use Rattle.fraction.specs.Meaning.{Contains}
use Rattle.fraction.proofs.Contains.{contains_refl, contains_trans}
use Rattle.inputs.specs.Place.{at}
use Rattle.rows.proofs.Size.{rounded_order}
use Rattle.rows.specs.Sum.{summed, singly, exactly, once}

pub upper_corners : (a b c d x y m : ℤ) → a ≤ℤ x → x ≤ℤ b → c ≤ℤ y → y ≤ℤ d → (a *ℤ c) ≤ℤ m → (a *ℤ d) ≤ℤ m → (b *ℤ c) ≤ℤ m → (b *ℤ d) ≤ℤ m → (x *ℤ y) ≤ℤ m
upper_corners a b c d x y m h k p q e₁ e₂ e₃ e₄ =
    back x y m (corners a b (neg_ℤ d) (neg_ℤ c) x (neg_ℤ y) (neg_ℤ m) h k (turn y d q) (turn c y p) (into a d m e₂) (into a c m e₁) (into b d m e₄) (into b c m e₃))
  where
    turn : (u v : ℤ) → u ≤ℤ v → neg_ℤ v ≤ℤ neg_ℤ u
    turn = over 2 _ (λ ρ. simp linear (omega arith))

    into : (u v m : ℤ) → (u *ℤ v) ≤ℤ m → neg_ℤ m ≤ℤ (u *ℤ neg_ℤ v)
    into = over 3 _ (λ ρ. simp linear (omega arith))

    back : (u v m : ℤ) → neg_ℤ m ≤ℤ (u *ℤ neg_ℤ v) → (u *ℤ v) ≤ℤ m
    back = over 3 _ (λ ρ. simp linear (omega arith))

-- ---- ends of narrower intervals
pub record Narrow (x y : Interval) : Type 0 where
  pub inside : Contains x y
  pub order : y.lo ≤ℤ y.hi

module _ {x y u v : Interval} (h : Narrow x u) (k : Narrow y v) where
  -- the lowest product of the wider intervals is at most each product of numbers in the narrower
  low_corner : {a b : ℤ} → x.lo ≤ℤ a → a ≤ℤ x.hi → y.lo ≤ℤ b → b ≤ℤ y.hi → least_product x y ≤ℤ (a *ℤ b)
  low_corner {a} {b} p q r t =
      corners x.lo x.hi y.lo y.hi a b _ p q r t (least_first _ _ _ _) (least_second _ _ _ _) (least_third _ _ _ _) (least_fourth _ _ _ _)

  high_corner : {a b : ℤ} → x.lo ≤ℤ a → a ≤ℤ x.hi → y.lo ≤ℤ b → b ≤ℤ y.hi → (a *ℤ b) ≤ℤ greatest_product x y
  high_corner {a} {b} p q r t =
      upper_corners x.lo x.hi y.lo y.hi a b _ p q r t (greatest_first _ _ _ _) (greatest_second _ _ _ _) (greatest_third _ _ _ _) (greatest_fourth _ _ _ _)

  lo_in : (x.lo ≤ℤ u.lo) × (u.lo ≤ℤ x.hi)
  lo_in = (h.inside.low, trans h.order h.inside.high)

  hi_in : (x.lo ≤ℤ u.hi) × (u.hi ≤ℤ x.hi)
  hi_in = (trans h.inside.low h.order, h.inside.high)

  lo_in' : (y.lo ≤ℤ v.lo) × (v.lo ≤ℤ y.hi)
  lo_in' = (k.inside.low, trans k.order k.inside.high)

  hi_in' : (y.lo ≤ℤ v.hi) × (v.hi ≤ℤ y.hi)
  hi_in' = (trans k.inside.low k.order, k.inside.high)

  least_rises : least_product x y ≤ℤ least_product u v
  least_rises =
      least_ind _ _ _ _ (λ z. least_product x y ≤ℤ z)
      (low_corner lo_in.0 lo_in.1 lo_in'.0 lo_in'.1) (low_corner lo_in.0 lo_in.1 hi_in'.0 hi_in'.1)
      (low_corner hi_in.0 hi_in.1 lo_in'.0 lo_in'.1) (low_corner hi_in.0 hi_in.1 hi_in'.0 hi_in'.1)

  greatest_falls : greatest_product u v ≤ℤ greatest_product x y
  greatest_falls =
      greatest_ind _ _ _ _ (λ z. z ≤ℤ greatest_product x y)
      (high_corner lo_in.0 lo_in.1 lo_in'.0 lo_in'.1) (high_corner lo_in.0 lo_in.1 hi_in'.0 hi_in'.1)
      (high_corner hi_in.0 hi_in.1 lo_in'.0 lo_in'.1) (high_corner hi_in.0 hi_in.1 hi_in'.0 hi_in'.1)

-- ---- a row of narrower intervals, unrounded
pub sum_contains : {u v w z : Interval} → Contains u w → Contains v z → Contains (exact_sum u v) (exact_sum w z)
unfolding exact_sum
sum_contains {u} {v} {w} {z} h k =
    record { low = go u.lo v.lo w.lo z.lo h.low k.low; high = go w.hi z.hi u.hi v.hi h.high k.high }
  where
    go : (a b c d : ℤ) → a ≤ℤ c → b ≤ℤ d → (a +ℤ b) ≤ℤ (c +ℤ d)
    go = over 4 _ (λ ρ. simp linear (omega arith))

product_contains : {x y u v : Interval} → Narrow x u → Narrow y v → Contains (exact_product x y) (exact_product u v)
unfolding exact_product
product_contains h k = record { low = least_rises h k; high = greatest_falls h k }

module _ (m : List ℤ) (p : ℕ) (x : List ℤ) (q : ℕ) (m' x' : List ℤ) where
  exactly_contains : (d j : ℕ) (v w : Interval) → ((i : ℕ) → i < j + d → Narrow (at m (p + i)) (at m' (p + i))) → ((i : ℕ) → i < j + d → Narrow (at x (q + i)) (at x' (q + i))) →
      Contains v w → Contains (exactly m p x q d j v) (exactly m' p x' q d j w)
  unfolding exactly
  exactly_contains zero j v w h k e = e
  exactly_contains (suc d) j v w h k e =
      exactly_contains d (j + 1) _ _ (λ i l. h i (omega arith)) (λ i l. k i (omega arith)) (sum_contains e (product_contains (h j (omega arith)) (k j (omega arith))))

-- ---- e₁ counts parts of a unit, s of them in one; it lies inside v
record Scaled (v e₁ : Interval) : Type 0 where
  low : (v.lo *ℤ scale) ≤ℤ e₁.lo
  high : e₁.hi ≤ℤ (v.hi *ℤ scale)

-- inside what it is rounded to, which is the narrowest such v
scaled_itself : (e₁ : Interval) → Scaled (rounded scale e₁) e₁
unfolding rounded
scaled_itself e₁ = record { low = floor_low _ scale scale_above; high = ceil_high _ scale scale_above }

scaled_rounded : {v e₁ : Interval} → Scaled v e₁ → Contains v (rounded scale e₁)
unfolding rounded
scaled_rounded h = record { low = (floor_iff _ scale _ scale_above).1 h.low; high = (ceil_iff _ scale _ scale_above).1 h.high }

scaled_sum : {v e₁ w e₂ : Interval} → Scaled v e₁ → Scaled w e₂ → Scaled (exact_sum v w) (exact_sum e₁ e₂)
unfolding exact_sum
scaled_sum {v} {e₁} {w} {e₂} h k =
    record { low = lows v.lo w.lo scale e₁.lo e₂.lo h.low k.low; high = highs v.hi w.hi scale e₁.hi e₂.hi h.high k.high }
  where
    lows : (a b s u v : ℤ) → (a *ℤ s) ≤ℤ u → (b *ℤ s) ≤ℤ v → ((a +ℤ b) *ℤ s) ≤ℤ (u +ℤ v)
    lows = over 5 _ (λ ρ. simp linear (omega arith))

    highs : (a b s u v : ℤ) → u ≤ℤ (a *ℤ s) → v ≤ℤ (b *ℤ s) → (u +ℤ v) ≤ℤ ((a +ℤ b) *ℤ s)
    highs = over 5 _ (λ ρ. simp linear (omega arith))

scaled_zero : Scaled nought nought
scaled_zero = record { low = zeros scale; high = zeros' scale }
  where
    zeros : (s : ℤ) → (pos 0 *ℤ s) ≤ℤ pos 0
    zeros = over 1 _ (λ ρ. simp (linear, ρ) (omega arith))

    zeros' : (s : ℤ) → pos 0 ≤ℤ (pos 0 *ℤ s)
    zeros' = over 1 _ (λ ρ. simp (linear, ρ) (omega arith))

scaled_row : (m : List ℤ) (p : ℕ) (x : List ℤ) (q d j : ℕ) (v e₁ : Interval) → Scaled v e₁ → Scaled (summed m p x q d j v) (exactly m p x q d j e₁)
unfolding summed exactly product_at
scaled_row m p x q zero j v e₁ e = e
scaled_row m p x q (suc d) j v e₁ e = scaled_row m p x q d (j + 1) _ _ (scaled_sum e (scaled_itself _))

-- ---- a row of narrower intervals that is rounded once, inside the wider one rounded either way
rounded_contains : {v w : Interval} → Contains v w → Contains (rounded scale v) (rounded scale w)
rounded_contains {v} h = let r = scaled_itself v in scaled_rounded (record { low = trans r.low h.low; high = trans h.high r.high })

module _ (m : List ℤ) (p : ℕ) (x : List ℤ) (q : ℕ) (m' x' : List ℤ) (d : ℕ) (h : (i : ℕ) → i < d → Narrow (at m (p + i)) (at m' (p + i)))
    (k : (i : ℕ) → i < d → Narrow (at x (q + i)) (at x' (q + i))) where
  pub once_narrows : Contains (once m p x q d) (once m' p x' q d)
  unfolding once
  once_narrows = rounded_contains (exactly_contains m p x q m' x' d 0 _ _ (λ i l. h i (omega arith)) (λ i l. k i (omega arith)) (contains_refl nought))

  pub once_inside : Contains (singly m p x q d) (once m' p x' q d)
  unfolding singly once
  once_inside = contains_trans (scaled_rounded (scaled_row m p x q d 0 _ _ scaled_zero)) once_narrows

-- ---- either row sum has its ends in sequence
product_order : (x y : Interval) → (exact_product x y).lo ≤ℤ (exact_product x y).hi
unfolding exact_product
product_order x y = trans (least_first _ _ _ _) (greatest_first _ _ _ _)

sum_order : (v w : Interval) → v.lo ≤ℤ v.hi → w.lo ≤ℤ w.hi → (exact_sum v w).lo ≤ℤ (exact_sum v w).hi
unfolding exact_sum
sum_order v w h k = go v.lo v.hi w.lo w.hi h k
  where
    go : (a b c d : ℤ) → a ≤ℤ b → c ≤ℤ d → (a +ℤ c) ≤ℤ (b +ℤ d)
    go = over 4 _ (λ ρ. simp linear (omega arith))

module _ (m : List ℤ) (p : ℕ) (x : List ℤ) (q : ℕ) where
  exactly_order : (d j : ℕ) (v : Interval) → v.lo ≤ℤ v.hi → (exactly m p x q d j v).lo ≤ℤ (exactly m p x q d j v).hi
  unfolding exactly
  exactly_order zero j v h = h
  exactly_order (suc d) j v h = exactly_order d (j + 1) _ (sum_order v _ h (product_order (at m (p + j)) (at x (q + j))))

  summed_order : (d j : ℕ) (v : Interval) → v.lo ≤ℤ v.hi → (summed m p x q d j v).lo ≤ℤ (summed m p x q d j v).hi
  unfolding summed product_at
  summed_order zero j v h = h
  summed_order (suc d) j v h = summed_order d (j + 1) _ (sum_order v _ h (rounded_order (product_order (at m (p + j)) (at x (q + j)))))

  pub once_order : (d : ℕ) → (once m p x q d).lo ≤ℤ (once m p x q d).hi
  unfolding once
  once_order d = rounded_order (exactly_order d 0 nought (≤ℤ_refl _))

  pub singly_order : (d : ℕ) → (singly m p x q d).lo ≤ℤ (singly m p x q d).hi
  unfolding singly
  singly_order d = summed_order d 0 nought (≤ℤ_refl _)
