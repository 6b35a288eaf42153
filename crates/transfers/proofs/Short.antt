-- Shares that are short: the products of a row with its components, added up, fit one word.
use mathlib.Core.Path.{◌≡◌}
use mathlib.Core.Bool.{true, false}
use Prim.Native.Nat.{ℕ, ◌+◌, ◌*◌, ◌≤◌}
use native.Mathlib.Omega.{arith}
use lib.IntN.{ℤ, pos, neg_ℤ, ◌*ℤ◌}
use lib.Signed.{◌≤ℤ◌, le_z, lt_z}
use Rattle.integer.proofs.Linear.{linear, over}
use Rattle.integer.proofs.Order.{left, le_taken, trans, also, prod}
use Rattle.interval.specs.declared.Interval.{Interval}
use Rattle.interval.specs.Interval.{acceptable, exact_sum, exact_product}
use Rattle.interval.specs.Code.{Representable}
use Rattle.interval.proofs.Corners.{least_first, greatest_first, least_ind, greatest_ind}
use Rattle.rows.proofs.Size.{Small, sum_small, small_fits, acceptable_small}
use Rattle.transfers.specs.Rows.{Short, Holds}

pub short_held : {h v : Interval} → Short h → Holds h v → Short v
short_held s w = record { low = trans s.low w.low; high = trans w.high s.high }

-- tests by any limits that are no greater
pub short_is : (h : Interval) {a b : ℤ} → neg_ℤ (pos 134217728) ≤ℤ a → b ≤ℤ pos 134217728 → lt_z h.lo a ≡ false → le_z h.hi b ≡ true → Short h
short_is h {a} {b} l u e f = record { low = trans l (left h.lo a e); high = trans (le_taken h.hi b f) u }

-- ---- a product, each end at most 2^27 · 2,000,000,000
module _ (a b : Interval) (s : Short a) (o : a.lo ≤ℤ a.hi) (e : acceptable b ≡ true) where
  abbrev Few : ℤ → Type 0
  Few p = (neg_ℤ (pos 268435456000000000) ≤ℤ p) × (p ≤ℤ pos 268435456000000000)

  few : {x y : ℤ} → neg_ℤ (pos 134217728) ≤ℤ x → x ≤ℤ pos 134217728 → neg_ℤ (pos 2000000000) ≤ℤ y → y ≤ℤ pos 2000000000 → Few (x *ℤ y)
  few {x} {y} = go x y
    where
      go : (x y : ℤ) → neg_ℤ (pos 134217728) ≤ℤ x → x ≤ℤ pos 134217728 → neg_ℤ (pos 2000000000) ≤ℤ y → y ≤ℤ pos 2000000000
          → (neg_ℤ (pos 268435456000000000) ≤ℤ (x *ℤ y)) × ((x *ℤ y) ≤ℤ pos 268435456000000000)
      go = over 2 _ (λ ρ h₁ h₂ k₁ k₂. also (prod h₁ k₁) (also (prod h₁ k₂) (also (prod h₂ k₁) (also (prod h₂ k₂) (simp (linear, ρ) (omega arith))))))

  pub product_short : Small 268435456000000000 (exact_product a b)
  unfolding exact_product
  product_short =
      let w = acceptable_small b e in
      let al = trans o s.high in
      let ah = trans s.low o in
      let bl = trans w.order w.high in
      let bh = trans w.low w.order in
      let p = few s.low al w.low bl in
      let q = few s.low al bh w.high in
      let r = few ah s.high w.low bl in
      let t = few ah s.high bh w.high in
      record {
        low = (least_ind _ _ _ _ Few p q r t).0;
        order = trans (least_first _ _ _ _) (greatest_first _ _ _ _);
        high = (greatest_ind _ _ _ _ Few p q r t).1;
      }

-- one product more, and two
pub one_short : (k : ℕ) {u v : Interval} → Small (k * 268435456000000000) v → Small 268435456000000000 u → Small ((k + 1) * 268435456000000000) (exact_sum v u)
one_short k m p = let z : (k + 1) * 268435456000000000 ≡ k * 268435456000000000 + 268435456000000000 = omega arith in rw z (sum_small m p)

pub two_short : (k : ℕ) {u v w : Interval} → Small (k * 268435456000000000) v → Small 268435456000000000 u → Small 268435456000000000 w → Small ((k + 2) * 268435456000000000) (exact_sum v (exact_sum u w))
two_short k m p q =
    let z : (k + 2) * 268435456000000000 ≡ k * 268435456000000000 + (268435456000000000 + 268435456000000000) = omega arith in
    rw z (sum_small m (sum_small p q))

pub short_fits : (k : ℕ) {v : Interval} → k ≤ 32 → Small (k * 268435456000000000) v → Representable v
short_fits k h m = small_fits (omega arith) m
