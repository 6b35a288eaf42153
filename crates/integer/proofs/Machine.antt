-- What a proof of code on `i64` asks of ℤ: a value's range, a value read back from its bits, the machine's quotient against the floor.
use mathlib.Core.Path.{◌≡◌, refl, ◌∙◌}
use mathlib.Core.Logic.{◌↔◌, ⊎_elim}
use Prim.Native.Nat.{ℕ, zero, suc, ◌/◌, ◌≤◌, ◌<◌, ◌^◌}
use native.Mathlib.Omega.{arith}
use native.Mathlib.Nat.{div-add-mod, mod-lt, div-le_self}
use lib.Dec.{T, ltb→lt, leb→le, le→leb}
use lib.IntN.{ℤ, pos, negsuc, neg_ℤ, nat_abs, ◌+ℤ◌, ◌-ℤ◌, ◌*ℤ◌}
use lib.Signed.{◌≤ℤ◌, ◌<ℤ◌, non_neg, quot_z, rem_z, mag, mag_shr, mag_rem}
use mir.Syntax.{w64}
use mir.Val.{Fits, SFits, of_z, to_z}
use mir.ValLaws.{sfits_le, to_z-of_z, to_z_pos}
use Rattle.integer.specs.Rounding.{floor_div, ceil_div}
use Rattle.integer.proofs.Difference.{differences}
use Rattle.integer.proofs.Linear.{linear, over}
use Rattle.integer.proofs.Order.{also, prod, lt_or_ge, next}
use Rattle.integer.proofs.Rounding.{floor_unique, ceil_unique}

-- ---- the range of an i64
into64 : (z : ℤ) → mag z < 2 ^ 63 → (negsuc 9223372036854775807 ≤ℤ z) × (z ≤ℤ pos 9223372036854775807)
into64 (pos n) h = (record { le = tt }, record { le = le→leb n 9223372036854775807 (omega arith) })
into64 (negsuc n) h = (record { le = le→leb n 9223372036854775807 (omega arith) }, record { le = tt })

outof64 : (z : ℤ) → (negsuc 9223372036854775807 ≤ℤ z) × (z ≤ℤ pos 9223372036854775807) → mag z < 2 ^ 63
outof64 (pos n) h = let k = leb→le n 9223372036854775807 h.1.le in omega arith
outof64 (negsuc n) h = let k = leb→le n 9223372036854775807 h.0.le in omega arith

pub fits64 : (z : ℤ) → SFits w64 z ↔ ((negsuc 9223372036854775807 ≤ℤ z) × (z ≤ℤ pos 9223372036854775807))
fits64 z = ((λ h. into64 z h.sfits), (λ h. record { sfits = outof64 z h }))

-- a value that fits, read back from its bits: of a call's result r, `plain r c.f.ok`
pub plain : (z : ℤ) → mag z < 2 ^ 63 → to_z w64 (of_z w64 z) ≡ z
plain z h = to_z-of_z w64 z (record { sfits = h })

-- an operation on two values that are read back from their bits
module _ (f : ℤ → ℤ → ℤ) (a b : ℤ) (fa : SFits w64 a) (fb : SFits w64 b) (ok : SFits w64 (f a b)) where
  pub op_safe : SFits w64 (f (to_z w64 (of_z w64 a)) (to_z w64 (of_z w64 b)))
  op_safe = rw (to_z-of_z w64 a fa, to_z-of_z w64 b fb) ok

  pub op_read : to_z w64 (of_z w64 (f (to_z w64 (of_z w64 a)) (to_z w64 (of_z w64 b)))) ≡ f a b
  op_read = rw (to_z-of_z w64 a fa, to_z-of_z w64 b fb) (to_z-of_z w64 (f a b) ok)

-- ---- the machine's quotient and remainder by a positive divisor
pub pos_bits : (d : ℤ) → pos 0 <ℤ d → 0 < of_z w64 d
pos_bits (pos n) h = ltb→lt 0 n h.lt
pos_bits (negsuc n) h = absurd h.lt

mag_neg : (r a : ℕ) → r ≤ suc a → mag (neg_ℤ (pos r)) ≤ a
mag_neg zero a h = omega arith
mag_neg (suc r) a h = omega arith

mag_quot : (z d : ℤ) → pos 0 <ℤ d → mag (quot_z z d) ≤ mag z
mag_quot (pos a) (pos s) h = div-le_self a s
mag_quot (pos a) (negsuc s) h = absurd h.lt
mag_quot (negsuc a) (pos s) h = mag_neg (suc a / s) a (div-le_self (suc a) s)
mag_quot (negsuc a) (negsuc s) h = absurd h.lt

pub quot_fits : (a d : ℤ) → SFits w64 a → pos 0 <ℤ d → SFits w64 (quot_z a d)
quot_fits a d f h = sfits_le (mag_quot a d h) f

pub rem_fits : (a d : ℤ) → SFits w64 a → SFits w64 (rem_z a d)
rem_fits a d f = sfits_le (mag_rem a d) f

pub floor_fits : (a d : ℤ) → SFits w64 a → pos 0 <ℤ d → SFits w64 (floor_div a d)
unfolding floor_div
floor_fits a (pos s) f h = sfits_le (mag_shr a s) f
floor_fits a (negsuc s) f h = absurd h.lt

pub record Divided (z d q r : ℤ) : Type 0 where
  pub whole : q *ℤ d +ℤ r ≡ z
  pub low : neg_ℤ d <ℤ r
  pub high : r <ℤ d

divided : (z d : ℤ) → pos 0 <ℤ d → Divided z d (quot_z z d) (rem_z z d)
divided z d h = let m = parts z d h in record { whole = m.0; low = m.1; high = m.2 }
  where
    parts : (z d : ℤ) → pos 0 <ℤ d → (quot_z z d *ℤ d +ℤ rem_z z d ≡ z) × (neg_ℤ d <ℤ rem_z z d) × (rem_z z d <ℤ d)
    parts (pos a) (pos s) h = let k = ltb→lt 0 s h.lt in simp differences (omega (arith, div-add-mod a s, mod-lt a k))
    parts (pos a) (negsuc s) h = absurd h.lt
    parts (negsuc a) (pos s) h = let k = ltb→lt 0 s h.lt in simp differences (omega (arith, div-add-mod (suc a) s, mod-lt (suc a) k))
    parts (negsuc a) (negsuc s) h = absurd h.lt

-- the quotient, or one less or more, is the floor or the ceiling, by the remainder's sign
module _ (z d : ℤ) (h : pos 0 <ℤ d) where
  pub quot_floor : pos 0 ≤ℤ rem_z z d → quot_z z d ≡ floor_div z d
  quot_floor r = let e = divided z d h in let m = go (quot_z z d) z d (rem_z z d) r e.whole e.high in floor_unique z d (quot_z z d) h m.0 m.1
    where
      go : (q z d r : ℤ) → pos 0 ≤ℤ r → q *ℤ d +ℤ r ≡ z → r <ℤ d → ((q *ℤ d) ≤ℤ z) × (z <ℤ (q *ℤ d +ℤ d))
      go = over 4 _ (λ ρ. simp (linear, ρ) (omega arith))

  pub quot_floor_less : rem_z z d <ℤ pos 0 → quot_z z d -ℤ pos 1 ≡ floor_div z d
  quot_floor_less r = let e = divided z d h in let m = go (quot_z z d) z d (rem_z z d) r e.whole e.low in floor_unique z d (quot_z z d -ℤ pos 1) h m.0 m.1
    where
      go : (q z d r : ℤ) → r <ℤ pos 0 → q *ℤ d +ℤ r ≡ z → neg_ℤ d <ℤ r → (((q -ℤ pos 1) *ℤ d) ≤ℤ z) × (z <ℤ ((q -ℤ pos 1) *ℤ d +ℤ d))
      go = over 4 _ (λ ρ. simp (linear, ρ) (omega arith))

  pub quot_ceil : rem_z z d ≤ℤ pos 0 → quot_z z d ≡ ceil_div z d
  quot_ceil r = let e = divided z d h in let m = go (quot_z z d) z d (rem_z z d) r e.whole e.low in ceil_unique z d (quot_z z d) h m.0 m.1
    where
      go : (q z d r : ℤ) → r ≤ℤ pos 0 → q *ℤ d +ℤ r ≡ z → neg_ℤ d <ℤ r → (z ≤ℤ (q *ℤ d)) × ((q *ℤ d -ℤ d) <ℤ z)
      go = over 4 _ (λ ρ. simp (linear, ρ) (omega arith))

  pub quot_ceil_more : pos 0 <ℤ rem_z z d → quot_z z d +ℤ pos 1 ≡ ceil_div z d
  quot_ceil_more r = let e = divided z d h in let m = go (quot_z z d) z d (rem_z z d) r e.whole e.high in ceil_unique z d (quot_z z d +ℤ pos 1) h m.0 m.1
    where
      go : (q z d r : ℤ) → pos 0 <ℤ r → q *ℤ d +ℤ r ≡ z → r <ℤ d → (z ≤ℤ ((q +ℤ pos 1) *ℤ d)) × (((q +ℤ pos 1) *ℤ d -ℤ d) <ℤ z)
      go = over 4 _ (λ ρ. simp (linear, ρ) (omega arith))

  -- one more than the quotient fits where the remainder is positive
  pub quot_more_fits : SFits w64 z → pos 0 <ℤ rem_z z d → SFits w64 (quot_z z d +ℤ pos 1)
  quot_more_fits f r =
      ⊎_elim
      (λ l. low (quot_z z d) (quot_fits z d f h) l)
      (λ l. high (quot_z z d) z d (rem_z z d) f l (next h) r (divided z d h).whole)
      (lt_or_ge (quot_z z d) (pos 0))
    where
      low : (q : ℤ) → SFits w64 q → q <ℤ pos 0 → SFits w64 (q +ℤ pos 1)
      low = over 1 _ (λ ρ. simp (fits64, linear, ρ) (omega arith))

      high : (q z d r : ℤ) → SFits w64 z → pos 0 ≤ℤ q → (pos 0 +ℤ pos 1) ≤ℤ d → pos 0 <ℤ r → q *ℤ d +ℤ r ≡ z → SFits w64 (q +ℤ pos 1)
      high = over 4 _ (λ ρ f l h r e. also (prod l h) (also f (also l (also r (also e (simp (fits64, linear, ρ) (omega arith)))))))

-- ---- as a proof of code meets them
module _ (a d : ℤ) (fa : SFits w64 a) (fd : SFits w64 d) (h : pos 0 <ℤ d) where
  pub quot_read : to_z w64 (of_z w64 (quot_z (to_z w64 (of_z w64 a)) (to_z w64 (of_z w64 d)))) ≡ quot_z a d
  quot_read = op_read quot_z a d fa fd (quot_fits a d fa h)

  pub rem_read : to_z w64 (of_z w64 (rem_z (to_z w64 (of_z w64 a)) (to_z w64 (of_z w64 d)))) ≡ rem_z a d
  rem_read = op_read rem_z a d fa fd (rem_fits a d fa)

-- ---- an i64 that is not negative, divided as a u64
module _ (z : ℤ) (s : ℕ) (f : SFits w64 z) (h : pos 0 ≤ℤ z) where
  pub natural_cast : T (non_neg (to_z w64 (of_z w64 z))) × Fits w64 (nat_abs (to_z w64 (of_z w64 z)))
  natural_cast = rw (to_z-of_z w64 z f) (go z f h)
    where
      go : (z : ℤ) → SFits w64 z → pos 0 ≤ℤ z → T (non_neg z) × Fits w64 (nat_abs z)
      go (pos n) f h = (tt, omega (arith, f.sfits))
      go (negsuc n) f h = absurd h.le

  pub natural_part : SFits w64 (pos (nat_abs (to_z w64 (of_z w64 z)) / s))
  natural_part = rw (to_z-of_z w64 z f) (go z f h)
    where
      go : (z : ℤ) → SFits w64 z → pos 0 ≤ℤ z → SFits w64 (pos (nat_abs z / s))
      go (pos n) f h = sfits_le (div-le_self n s) f
      go (negsuc n) f h = absurd h.le

  pub natural_read : to_z w64 (nat_abs (to_z w64 (of_z w64 z)) / s) ≡ floor_div z (pos s)
  unfolding floor_div
  natural_read = to_z_pos w64 _ natural_part.sfits ∙ rw (to_z-of_z w64 z f) (go z h)
    where
      go : (z : ℤ) → pos 0 ≤ℤ z → pos (nat_abs z / s) ≡ floor_div z (pos s)
      go (pos n) h = refl
      go (negsuc n) h = absurd h.le
