-- Rounding by the scale with one unsigned division: 4·10^12 whole scales lift every product of two ends to 0 or more.
use mathlib.Core.Path.{◌≡◌, ◌∙◌}
use Prim.Native.Nat.{◌/◌}
use native.Mathlib.Omega.{arith}
use lib.Dec.{T}
use lib.IntN.{ℤ, pos, negsuc, nat_abs, ◌+ℤ◌, ◌-ℤ◌, ◌*ℤ◌}
use lib.Signed.{◌≤ℤ◌, lt_z_yes, non_neg}
use mir.Syntax.{w64}
use mir.Val.{Fits, SFits, to_z, of_z}
use mir.ValLaws.{to_z-of_z}
use Rattle.integer.specs.Rounding.{floor_div}
use Rattle.integer.proofs.Linear.{linear, over}
use Rattle.integer.proofs.Order.{also, prod}
use Rattle.integer.proofs.Rounding.{floor_nonneg}
use Rattle.integer.proofs.Machine.{fits64, floor_fits, natural_cast, natural_part, natural_read}
use Rattle.interval.specs.declared.Interval.{Interval}
use Rattle.interval.specs.Interval.{lowest, highest, least_product, greatest_product}
use Rattle.interval.specs.Code.{Bounded}
use Rattle.interval.proofs.Corners.{least_ind, greatest_ind}
use Rattle.interval.proofs.Range.{Within, Sound}

product_bounded : {a b : ℤ} → Within a → Within b → Bounded (a *ℤ b)
unfolding lowest highest
product_bounded {a} {b} h k = go a b h.low h.high k.low k.high
  where
    go : (a b : ℤ) → negsuc 1999999999 ≤ℤ a → a ≤ℤ pos 2000000000 → negsuc 1999999999 ≤ℤ b → b ≤ℤ pos 2000000000 → (negsuc 3999999999999999999 ≤ℤ (a *ℤ b)) × ((a *ℤ b) ≤ℤ pos 4000000000000000000)
    go = over 2 _ (λ ρ h₁ h₂ k₁ k₂. also (prod h₁ k₁) (also (prod h₁ k₂) (also (prod h₂ k₁) (also (prod h₂ k₂) (simp (linear, ρ) (omega arith))))))

-- so are the least and the greatest of four
pub least_bounded : {x y : Interval} → Sound x → Sound y → Bounded (least_product x y)
least_bounded v w =
    least_ind _ _ _ _ Bounded
    (product_bounded v.lo_in w.lo_in) (product_bounded v.lo_in w.hi_in) (product_bounded v.hi_in w.lo_in) (product_bounded v.hi_in w.hi_in)

pub greatest_bounded : {x y : Interval} → Sound x → Sound y → Bounded (greatest_product x y)
greatest_bounded v w =
    greatest_ind _ _ _ _ Bounded
    (product_bounded v.lo_in w.lo_in) (product_bounded v.lo_in w.hi_in) (product_bounded v.hi_in w.lo_in) (product_bounded v.hi_in w.hi_in)

-- and they are as the code has them
pub bounded_read : {p : ℤ} → Bounded p → to_z w64 (of_z w64 p) ≡ p
bounded_read {p} h = to_z-of_z w64 p (go p h.0 h.1)
  where
    go : (p : ℤ) → negsuc 3999999999999999999 ≤ℤ p → p ≤ℤ pos 4000000000000000000 → SFits w64 p
    go = over 1 _ (λ ρ. simp (fits64, linear, ρ) (omega arith))

-- ---- as the code has it: p and a bias b that is less than one scale above the 4·10^12
module _ (p b : ℤ) (f : SFits w64 p) (h : Bounded p) (l : pos 4000000000000000000 ≤ℤ b) (u : b ≤ℤ pos 4000000000000999999) where
  fits : SFits w64 (p +ℤ b)
  fits = go p b h.0 h.1 l u
    where
      go : (p b : ℤ) → negsuc 3999999999999999999 ≤ℤ p → p ≤ℤ pos 4000000000000000000 → pos 4000000000000000000 ≤ℤ b → b ≤ℤ pos 4000000000000999999 → SFits w64 (p +ℤ b)
      go = over 2 _ (λ ρ. simp (fits64, linear, ρ) (omega arith))

  above : pos 0 ≤ℤ (p +ℤ b)
  above = go p b h.0 l
    where
      go : (p b : ℤ) → negsuc 3999999999999999999 ≤ℤ p → pos 4000000000000000000 ≤ℤ b → pos 0 ≤ℤ (p +ℤ b)
      go = over 2 _ (λ ρ. simp (linear, ρ) (omega arith))

  less_fits : SFits w64 (floor_div (p +ℤ b) (pos 1000000) -ℤ pos 4000000000000)
  less_fits = go _ ((floor_nonneg (p +ℤ b) (pos 1000000) (lt_z_yes tt)).1 above) (floor_fits (p +ℤ b) (pos 1000000) fits (lt_z_yes tt))
    where
      go : (q : ℤ) → pos 0 ≤ℤ q → SFits w64 q → SFits w64 (q -ℤ pos 4000000000000)
      go = over 1 _ (λ ρ. simp (fits64, linear, ρ) (omega arith))

  pub biased_add : SFits w64 (to_z w64 (of_z w64 p) +ℤ b)
  biased_add = rw (to_z-of_z w64 p f) fits

  pub biased_cast : T (non_neg (to_z w64 (of_z w64 (to_z w64 (of_z w64 p) +ℤ b)))) × Fits w64 (nat_abs (to_z w64 (of_z w64 (to_z w64 (of_z w64 p) +ℤ b))))
  biased_cast = rw (to_z-of_z w64 p f) (natural_cast (p +ℤ b) 1000000 fits above)

  pub biased_part : SFits w64 (pos (nat_abs (to_z w64 (of_z w64 (to_z w64 (of_z w64 p) +ℤ b))) / 1000000))
  biased_part = rw (to_z-of_z w64 p f) (natural_part (p +ℤ b) 1000000 fits above)

  pub biased_less : SFits w64 (to_z w64 (nat_abs (to_z w64 (of_z w64 (to_z w64 (of_z w64 p) +ℤ b))) / 1000000) -ℤ pos 4000000000000)
  biased_less = rw (to_z-of_z w64 p f, natural_read (p +ℤ b) 1000000 fits above) less_fits

  pub biased_read : to_z w64 (of_z w64 (to_z w64 (nat_abs (to_z w64 (of_z w64 (to_z w64 (of_z w64 p) +ℤ b))) / 1000000) -ℤ pos 4000000000000)) ≡ floor_div (p +ℤ b) (pos 1000000) -ℤ pos 4000000000000
  biased_read = to_z-of_z w64 _ biased_less ∙ rw (to_z-of_z w64 p f, natural_read (p +ℤ b) 1000000 fits above)
