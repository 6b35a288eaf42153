-- Document 01, Bounds in units: 'rounded towards minus infinity' and 'towards plus infinity', for any divisor but 0.
use Rattle.std.specs.Prelude.{suc, ℤ, pos, negsuc, neg_ℤ}
use Rattle.std.specs.Int.Signed.{shr_z}

-- z / d rounded down. `shr_z z s` divides by a natural s: a ↦ a / s, and −(a + 1) ↦ −(a / s + 1)
unfoldable pub floor_div : ℤ → ℤ → ℤ
floor_div z (pos s) = shr_z z s
floor_div z (negsuc s) = shr_z (neg_ℤ z) (suc s)

-- z / d rounded up
unfoldable pub ceil_div : ℤ → ℤ → ℤ
ceil_div z d = neg_ℤ (floor_div (neg_ℤ z) d)
