-- Rounding a number that is not below 0, and of two words of which the high one is 0.
use mathlib.Core.Path.{◌≡◌, sym, ap, ◌∙◌}
use Prim.Native.Nat.{ℕ, ◌+◌, ◌/◌, ◌%◌, ◌≤◌, min}
use native.Mathlib.Omega.{arith}
use lib.IntN.{ℤ, pos, ◌*ℤ◌, ◌+ℤ◌}
use mir.Syntax.{w64}
use mir.Val.{SFits, to_z, of_z}
use mir.ValLaws.{to_z-of_z, to_z_pos}
use Rattle.integer.specs.Rounding.{floor_div, ceil_div}
use Rattle.integer.proofs.Linear.{linear, over}
use Rattle.integer.proofs.Rounding.{ceil_floor}
use Rattle.interval.specs.Interval.{scale}
use Rattle.interval.proofs.Range.{scale_above}
use Rattle.wide_sum.specs.declared.Wide.{Wide}
use Rattle.wide_sum.specs.Wide.{held}

module _ (p : ℕ) (h : p ≤ 18446744073709551615) where
  -- the quotient, as the code has it
  quotient : to_z w64 (p / 1000000) ≡ pos (p / 1000000)
  quotient = to_z_pos w64 (p / 1000000) (omega arith)

  pub floor_read : to_z w64 (p / 1000000) ≡ floor_div (pos p) scale
  unfolding floor_div scale
  floor_read = quotient

  ceil_is : pos ((p + 999999) / 1000000) ≡ ceil_div (pos p) scale
  unfolding floor_div scale
  ceil_is = ceil_floor (pos p) (pos 1000000) scale_above

  pub ceil_read : (q : ℕ) → q ≡ p / 1000000 + min 1 (p % 1000000) → to_z w64 q ≡ ceil_div (pos p) scale
  ceil_read q e =
      let f : q ≡ (p + 999999) / 1000000 = omega arith in
      to_z_pos w64 q (omega arith) ∙ ap pos f ∙ ceil_is

-- two words of which the high one is 0
pub low_alone : (w : Wide) → SFits w64 w.high → of_z w64 w.high ≡ 0 → held w ≡ pos w.low
unfolding held
low_alone w f e =
    let z : w.high ≡ pos 0 = sym (to_z-of_z w64 w.high f) ∙ ap (to_z w64) e in
    rw z (none (pos 18446744073709551616) (pos w.low))
  where
    none : (a b : ℤ) → (pos 0 *ℤ a +ℤ b) ≡ b
    none = over 2 _ (λ ρ. simp (linear, ρ) (omega arith))
