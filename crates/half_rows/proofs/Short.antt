-- Wide numbers that fit one word.
use mathlib.Core.Path.{◌≡◌, ◌∙◌}
use mathlib.Core.Bool.{true, false}
use Prim.Native.Nat.{ℕ, ◌^◌, ◌<◌}
use native.Mathlib.Omega.{arith}
use lib.IntN.{ℤ, pos, negsuc, neg_ℤ, ◌+ℤ◌, ◌-ℤ◌, ◌*ℤ◌}
use lib.Signed.{◌≤ℤ◌, ◌<ℤ◌, lt_z}
use mir.Syntax.{w64}
use mir.Val.{SFits, to_z, of_z}
use Rattle.std.proofs.lemmas.Int.{ints, of_z-to_z}
use Rattle.integer.specs.Rounding.{floor_div, ceil_div}
use Rattle.integer.proofs.Linear.{linear, over}
use Rattle.integer.proofs.Order.{taken, left}
use Rattle.integer.proofs.Rounding.{floor_low, floor_high, ceil_low, ceil_high}
use Rattle.wide_sum.specs.declared.Wide.{Wide}
use Rattle.wide_sum.specs.Wide.{held}
use Rattle.wide_sum.specs.Code.{Handy}

-- ---- a low word below 0 goes with the high word −1, and another one with 0
word_below : (n : ℕ) → n < 2 ^ 64 → to_z w64 n <ℤ pos 0 → to_z w64 n ≡ neg_ℤ (pos 1) *ℤ pos (2 ^ 64) +ℤ pos n
word_below n h k = grind (arith, ints)

word_above : (n : ℕ) → n < 2 ^ 64 → pos 0 ≤ℤ to_z w64 n → to_z w64 n ≡ pos 0 *ℤ pos (2 ^ 64) +ℤ pos n
word_above n h k = grind (arith, ints)

module _ (w : Wide) (h : w.low < 2 ^ 64) {l : ℤ} (e : l ≡ to_z w64 w.low) where
  pub one_word_below : lt_z (to_z w64 (of_z w64 l)) (pos 0) ≡ true → w.high ≡ negsuc 0 → to_z w64 (of_z w64 l) ≡ held w
  unfolding held
  one_word_below b f =
      let r : to_z w64 (of_z w64 l) ≡ to_z w64 w.low = rw (e, of_z-to_z w64 w.low h) in
      r ∙ rw f (word_below w.low h (taken _ _ (rw r at b)))

  pub one_word_above : lt_z (to_z w64 (of_z w64 l)) (pos 0) ≡ false → w.high ≡ pos 0 → to_z w64 (of_z w64 l) ≡ held w
  unfolding held
  one_word_above b f =
      let r : to_z w64 (of_z w64 l) ≡ to_z w64 w.low = rw (e, of_z-to_z w64 w.low h) in
      r ∙ rw f (word_above w.low h (left _ _ (rw r at b)))

-- ---- what is rounded is far from the ends of 64 bits
module _ (z : ℤ) (s : SFits w64 z) where
  low : neg_ℤ (pos (2 ^ 63)) ≤ℤ z
  low = omega (arith, ints)

  high : z <ℤ pos (2 ^ 63)
  high = omega (arith, ints)

  pub floor_handy : Handy (floor_div z (pos 1000000))
  floor_handy =
      let d : pos 0 <ℤ pos 1000000 = record { lt = tt } in
      let g = go z (floor_div z (pos 1000000)) low high (floor_low z (pos 1000000) d) (floor_high z (pos 1000000) d) in
      record { low = g.0; high = g.1 }
    where
      go : (z f : ℤ) → neg_ℤ (pos (2 ^ 63)) ≤ℤ z → z <ℤ pos (2 ^ 63) → (f *ℤ pos 1000000) ≤ℤ z → z <ℤ (f *ℤ pos 1000000 +ℤ pos 1000000)
          → (neg_ℤ (pos 30000000000000000) ≤ℤ f) × (f ≤ℤ pos 30000000000000000)
      go = over 2 _ (λ ρ. simp (linear, ρ) (omega arith))

  pub ceil_handy : Handy (ceil_div z (pos 1000000))
  ceil_handy =
      let d : pos 0 <ℤ pos 1000000 = record { lt = tt } in
      let g = go z (ceil_div z (pos 1000000)) low high (ceil_low z (pos 1000000) d) (ceil_high z (pos 1000000) d) in
      record { low = g.0; high = g.1 }
    where
      go : (z f : ℤ) → neg_ℤ (pos (2 ^ 63)) ≤ℤ z → z <ℤ pos (2 ^ 63) → (f *ℤ pos 1000000 -ℤ pos 1000000) <ℤ z → z ≤ℤ (f *ℤ pos 1000000)
          → (neg_ℤ (pos 30000000000000000) ≤ℤ f) × (f ≤ℤ pos 30000000000000000)
      go = over 2 _ (λ ρ. simp (linear, ρ) (omega arith))
