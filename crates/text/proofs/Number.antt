-- What each test of the code says of the numbers of a text, and one turn of the loop over digits.
use mathlib.Core.Path.{◌≡◌, refl, ◌∙◌}
use mathlib.Core.Bool.{true, false}
use mathlib.Core.List.{List, [], ◌∷◌}
use mathlib.Core.Logic.{◌⊎◌, inl, inr}
use Prim.Native.Nat.{ℕ, zero, suc, ◌+◌, ◌-◌, ◌*◌, ◌^◌, ◌≤◌, ◌<◌}
use native.Mathlib.Numerals.{add-one}
use native.Mathlib.Omega.{arith}
use native.Mathlib.Nat.{pow-suc, pow-le-pow_right, mul-le-mul_right}
use borrow.Author.Tests.{le-leb, lt-leb, leb-true, eq-eqb, ne_eqb}
use lib.Dec.{leb}
use lib.IntN.{pos, neg_ℤ, ◌-ℤ◌, +ℤ_idl}
use lib.ListN.{length, get_or, drop, drop_of_length-le}
use lib.Seq.{drop-cons}
use lib.Signed.{mag}
use mir.Syntax.{w64}
use mir.Val.{SFits, to_z, of_z}
use mir.ValLaws.{to_z_pos, to_z-of_z}
use Rattle.std.specs.Char.{is_ascii_digit}
use Rattle.std.specs.Prelude.{Option, Some, None, option_and_then}
use Rattle.interval.proofs.Range.{and_both}
use Rattle.text.specs.Number.{is_digit, digits, plain, magnitude, below, number}

-- ---- one digit
module _ (b : ℕ) where
  pub digit_is : is_ascii_digit b ≡ is_digit b
  unfolding is_digit
  digit_is = refl

  pub digit_within : is_digit b ≡ true → (48 ≤ b) × (b ≤ 57)
  unfolding is_digit
  digit_within e = let f = and_both (leb 48 b) (leb b 57) e in (leb-true 48 b f.0, leb-true b 57 f.1)

-- ---- digits, one turn of the loop: v stands for the i bytes before
module _ (s : List ℕ) (i v : ℕ) where
  pub digits_end : length s ≤ i → digits (drop i s) v ≡ Some v
  unfolding digits
  digits_end h = rw (drop_of_length-le s h)

  pub digits_go : i < length s → is_digit (get_or s i 0) ≡ true → digits (drop i s) v ≡ digits (drop (i + 1) s) (v * 10 + (get_or s i 0 - 48))
  unfolding digits
  digits_go h e = rw (add-one i, drop-cons s i 0 h, e)

  pub digits_out : i < length s → is_digit (get_or s i 0) ≡ false → digits (drop i s) v ≡ None
  unfolding digits
  digits_out h e = rw (drop-cons s i 0 h, e)

-- ---- i digits to the base b make a number below b ^ i
pub power_more : (b i v d : ℕ) → v < b ^ i → d < b → v * b + d < b ^ (i + 1)
power_more b i v d h k = rw (add-one i, pow-suc b i) (omega (arith, mul-le-mul_right b h))

pub power_ten : (i v : ℕ) → i ≤ 10 → v < 10 ^ i → v ≤ 9_999_999_999
power_ten i v h k = omega (arith, pow-le-pow_right {n = 10} (omega arith) {i = i} {j = 10} h)

-- ---- without a sign
module _ (s : List ℕ) where
  -- no byte, or too many
  pub magnitude_out : (length s < 1) ⊎ ((1 ≤ length s) × (10 < length s)) → None ≡ magnitude s
  unfolding magnitude
  magnitude_out (inl h) = rw (lt-leb 1 (length s) h)
  magnitude_out (inr h) = rw (le-leb 1 (length s) h.0, lt-leb (length s) 10 h.1)

  -- a leading zero, and something after it
  pub magnitude_padded : 1 ≤ length s → length s ≤ 10 → get_or s 0 0 ≡ 48 → (length s ≡ 1 → ⊥) → None ≡ magnitude s
  unfolding magnitude plain
  magnitude_padded h k z n = rw (le-leb 1 (length s) h, le-leb (length s) 10 k, eq-eqb (get_or s 0 0) 48 z, ne_eqb (length s) 1 n)

  pub magnitude_digits : 1 ≤ length s → length s ≤ 10 → ((get_or s 0 0 ≡ 48) × (length s ≡ 1)) ⊎ (get_or s 0 0 ≡ 48 → ⊥) → digits s 0 ≡ magnitude s
  unfolding magnitude plain
  magnitude_digits h k (inl z) = rw (le-leb 1 (length s) h, le-leb (length s) 10 k, eq-eqb (get_or s 0 0) 48 z.0, eq-eqb (length s) 1 z.1)
  magnitude_digits h k (inr z) = rw (le-leb 1 (length s) h, le-leb (length s) 10 k, ne_eqb (get_or s 0 0) 48 z)

-- ---- with a sign
pub below_zero : (m : ℕ) → m ≡ 0 → None ≡ below m
unfolding below
below_zero m e = rw e

pub below_some : (m : ℕ) → (m ≡ 0 → ⊥) → Some (neg_ℤ (pos m)) ≡ below m
unfolding below
below_some zero n = absurd (n refl)
below_some (suc m) n = refl

pub mag_turned : (m : ℕ) → mag (neg_ℤ (pos m)) ≤ m
mag_turned zero = omega arith
mag_turned (suc m) = omega arith

-- ten digits fit an i64, and so does what is as far below nought
module _ (m : ℕ) (h : m ≤ 9_999_999_999) where
  pub units_read : to_z w64 m ≡ pos m
  units_read = to_z_pos w64 m (omega arith)

  turned : pos 0 -ℤ to_z w64 m ≡ neg_ℤ (pos m)
  turned = rw units_read (+ℤ_idl (neg_ℤ (pos m)))

  pub turned_fits : SFits w64 (pos 0 -ℤ to_z w64 m)
  turned_fits = rw turned (record { sfits = omega (arith, mag_turned m) })

  pub turned_read : to_z w64 (of_z w64 (pos 0 -ℤ to_z w64 m)) ≡ neg_ℤ (pos m)
  turned_read = to_z-of_z w64 (pos 0 -ℤ to_z w64 m) turned_fits ∙ turned

pub number_none : (s : List ℕ) → length s ≡ 0 → None ≡ number s
unfolding number
number_none [] h = refl
number_none (b ∷ s) h = absurd (omega arith)

module _ {s rest : List ℕ} {b : ℕ} (e : s ≡ b ∷ rest) where
  pub number_below : b ≡ 45 → {g : Option ℕ} → g ≡ magnitude rest → option_and_then below g ≡ number s
  unfolding number
  number_below h f = rw (e, eq-eqb b 45 h, f)

  pub number_plain : (b ≡ 45 → ⊥) → {g : Option ℕ} → g ≡ magnitude s → option_and_then (λ m. Some (pos m)) g ≡ number s
  unfolding number
  number_plain n f = rw (f, e, ne_eqb b 45 n)
