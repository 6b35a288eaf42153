-- What a division that rounds towards nought gives, and one more or less by the sign of its rest: the floor and the ceiling.
use mathlib.Core.Path.{◌≡◌, refl, ◌∙◌}
use Rattle.std.specs.Int.{int_div_euclid}
use mathlib.Core.Bool.{true, false}
use lib.IntN.{ℤ, pos, negsuc, ◌+ℤ◌}
use lib.Signed.{◌<ℤ◌, lt_z, quot_z, rem_z}
use mir.Syntax.{w64}
use mir.Val.{SFits, to_z, of_z}
use mir.ValLaws.{to_z-of_z}
use Rattle.integer.specs.Rounding.{floor_div, ceil_div}
use Rattle.integer.proofs.Order.{taken, left}
use Rattle.integer.proofs.Machine.{quot_read, rem_read, quot_more_fits, quot_ceil, quot_ceil_more}

-- an i64 as the machine holds it
abbrev held : ℤ → ℤ
held z = to_z w64 (of_z w64 z)

module _ (a d : ℤ) (fa : SFits w64 a) (fd : SFits w64 d) (h : pos 0 <ℤ d) where
  abbrev q : ℤ
  q = held (quot_z (held a) (held d))

  abbrev r : ℤ
  r = held (rem_z (held a) (held d))

  pub ceil_more : lt_z (pos 0) r ≡ true → held (q +ℤ pos 1) ≡ ceil_div a d
  ceil_more e =
      let k = taken _ _ (rw (rem_read a d fa fd h) at e) in
      rw (quot_read a d fa fd h) (to_z-of_z w64 _ (quot_more_fits a d h fa k) ∙ quot_ceil_more a d h k)

  pub ceil_whole : lt_z (pos 0) r ≡ false → q ≡ ceil_div a d
  ceil_whole e = quot_read a d fa fd h ∙ quot_ceil a d h (left _ _ (rw (rem_read a d fa fd h) at e))

-- the quotient of which the rest is not below nought, by a divisor above nought, is the floor
pub floor_is : (a d : ℤ) → pos 0 <ℤ d → int_div_euclid a d ≡ floor_div a d
unfolding floor_div
floor_is (pos a) (pos d) h = refl
floor_is (negsuc a) (pos d) h = refl
floor_is a (negsuc d) h = absurd h.lt
