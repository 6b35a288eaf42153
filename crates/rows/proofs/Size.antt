-- How large a sum of products can be: each is at most 4·10¹⁸, and rounded at most 4·10¹² units.
use mathlib.Core.Path.{◌≡◌}
use mathlib.Core.Bool.{true}
use Prim.Native.Nat.{ℕ, ◌+◌, ◌*◌, ◌≤◌}
use native.Mathlib.Omega.{arith}
use lib.Dec.{le→leb}
use lib.IntN.{ℤ, pos, neg_ℤ, ◌+ℤ◌, ◌-ℤ◌, ◌*ℤ◌}
use lib.Signed.{◌≤ℤ◌, le_z_yes}
use mir.Syntax.{w64}
use mir.Val.{SFits}
use Rattle.integer.proofs.Linear.{linear, over}
use Rattle.integer.proofs.Order.{trans, cancel}
use Rattle.integer.proofs.Rounding.{floor_low, floor_iff, ceil_high, ceil_iff}
use Rattle.integer.proofs.Machine.{fits64}
use Rattle.interval.specs.declared.Interval.{Interval}
use Rattle.interval.specs.Interval.{scale, lowest, highest, acceptable, exact_sum, exact_difference, exact_product, rounded, product_at, product, zero}
use Rattle.interval.specs.Code.{Representable}
use Rattle.interval.proofs.Range.{is_sound, scale_above}
use Rattle.interval.proofs.Corners.{least_first, greatest_first}
use Rattle.interval.proofs.Scaled.{least_bounded, greatest_bounded}

-- ends in sequence, neither further from 0 than k
pub record Small (k : ℕ) (v : Interval) : Type 0 where
  pub low : neg_ℤ (pos k) ≤ℤ v.lo
  pub order : v.lo ≤ℤ v.hi
  pub high : v.hi ≤ℤ pos k

pub zero_small : Small 0 zero
zero_small = record { low = le_z_yes tt; order = le_z_yes tt; high = le_z_yes tt }

pub sum_small : {k l : ℕ} {v w : Interval} → Small k v → Small l w → Small (k + l) (exact_sum v w)
unfolding exact_sum
sum_small {k} {l} {v} {w} h g =
    record {
      low = lows (pos k) (pos l) v.lo w.lo h.low g.low;
      order = highs v.hi w.hi v.lo w.lo h.order g.order;
      high = highs (pos k) (pos l) v.hi w.hi h.high g.high;
    }
  where
    lows : (k l a b : ℤ) → neg_ℤ k ≤ℤ a → neg_ℤ l ≤ℤ b → neg_ℤ (k +ℤ l) ≤ℤ (a +ℤ b)
    lows = over 4 _ (λ ρ. simp linear (omega arith))

    highs : (k l a b : ℤ) → a ≤ℤ k → b ≤ℤ l → (a +ℤ b) ≤ℤ (k +ℤ l)
    highs = over 4 _ (λ ρ. simp linear (omega arith))

pub difference_small : {k l : ℕ} {v w : Interval} → Small k v → Small l w → Small (k + l) (exact_difference v w)
unfolding exact_difference
difference_small {k} {l} {v} {w} h g =
    record {
      low = lows (pos k) (pos l) v.lo w.hi h.low g.high;
      order = orders v.lo v.hi w.lo w.hi h.order g.order;
      high = highs (pos k) (pos l) v.hi w.lo h.high g.low;
    }
  where
    lows : (k l a b : ℤ) → neg_ℤ k ≤ℤ a → b ≤ℤ l → neg_ℤ (k +ℤ l) ≤ℤ (a -ℤ b)
    lows = over 4 _ (λ ρ. simp linear (omega arith))

    orders : (a b c d : ℤ) → a ≤ℤ b → c ≤ℤ d → (a -ℤ d) ≤ℤ (b -ℤ c)
    orders = over 4 _ (λ ρ. simp linear (omega arith))

    highs : (k l a b : ℤ) → a ≤ℤ k → neg_ℤ l ≤ℤ b → (a -ℤ b) ≤ℤ (k +ℤ l)
    highs = over 4 _ (λ ρ. simp linear (omega arith))

-- what is acceptable is in the range
pub acceptable_small : (v : Interval) → acceptable v ≡ true → Small 2000000000 v
unfolding lowest highest
acceptable_small v e = let h = is_sound v e in record { low = h.lo_in.low; order = h.order; high = h.hi_in.high }

pub small_fits : {k : ℕ} {v : Interval} → k ≤ 9000000000000000000 → Small k v → Representable v
small_fits {k} {v} b h =
    let m : pos k ≤ℤ pos 9000000000000000000 = record { le = le→leb k 9000000000000000000 b } in
    record { lo_fits = fit (pos k) v.lo m h.low (trans h.order h.high); hi_fits = fit (pos k) v.hi m (trans h.low h.order) h.high }
  where
    fit : (k z : ℤ) → k ≤ℤ pos 9000000000000000000 → neg_ℤ k ≤ℤ z → z ≤ℤ k → SFits w64 z
    fit = over 2 _ (λ ρ. simp (fits64, linear, ρ) (omega arith))

-- ---- a product, unrounded and rounded
pub exact_product_small : (x y : Interval) → acceptable x ≡ true → acceptable y ≡ true → Small 4000000000000000000 (exact_product x y)
unfolding exact_product
exact_product_small x y e f =
    let h = is_sound x e in
    let k = is_sound y f in
    record { low = (least_bounded h k).0; order = trans (least_first _ _ _ _) (greatest_first _ _ _ _); high = (greatest_bounded h k).1 }

-- ends in sequence stay so
pub rounded_order : {v : Interval} → v.lo ≤ℤ v.hi → (rounded scale v).lo ≤ℤ (rounded scale v).hi
unfolding rounded
rounded_order {v} h = cancel _ _ scale scale_above (trans (floor_low v.lo scale scale_above) (trans h (ceil_high v.hi scale scale_above)))

pub rounded_small : (k : ℕ) {v : Interval} → Small (k * 1000000) v → Small k (rounded scale v)
unfolding rounded scale
rounded_small k {v} h =
    record {
      low = (floor_iff v.lo (pos 1000000) (neg_ℤ (pos k)) scale_above).1 (turned (pos k) v.lo h.low);
      order = rounded_order h.order;
      high = (ceil_iff v.hi (pos 1000000) (pos k) scale_above).1 h.high;
    }
  where
    turned : (k z : ℤ) → neg_ℤ (k *ℤ pos 1000000) ≤ℤ z → (neg_ℤ k *ℤ pos 1000000) ≤ℤ z
    turned = over 2 _ (λ ρ. simp (linear, ρ) (omega arith))

pub product_small : (x y : Interval) → acceptable x ≡ true → acceptable y ≡ true → Small 4000000000000 (product x y)
unfolding product_at
product_small x y e f = rounded_small 4000000000000 (exact_product_small x y e f)
