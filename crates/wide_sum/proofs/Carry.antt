-- What a carry makes of a wide number; and that its high word fits.
use Rattle.std.proofs.Common.{◌≡◌, ℕ, ◌+◌, ◌%◌, ◌^◌, ◌<◌, ◌≤◌, ℤ, pos, ◌+ℤ◌, ◌*ℤ◌, ◌≤ℤ◌, ap, arith, w64, SFits, to_z, of_z}
use lib.Signed.{≤ℤ_refl}
use mir.ValLaws.{to_z-of_z}
use Rattle.integer.proofs.Linear.{linear, over}
use Rattle.wide_sum.specs.declared.Wide.{Wide}
use Rattle.wide_sum.specs.Wide.{held}
use Rattle.wide_sum.specs.Code.{Near, Raised}
use Rattle.wide_sum.proofs.Near.{moved_fits}

-- ---- the high word
more : (h : ℤ) → h ≤ℤ (h +ℤ pos 1)
more = over 1 _ (λ ρ. simp (linear, ρ) (omega arith))

pub high_fits : {w : Wide} → Near 1000 w → SFits w64 w.high
high_fits n = (moved_fits (≤ℤ_refl _) (more _) n).0

one_more_fits : {w : Wide} → Near 1000 w → SFits w64 (w.high +ℤ pos 1)
one_more_fits n = (moved_fits (more _) (≤ℤ_refl _) n).0

one_more_read : {w : Wide} → Near 1000 w → to_z w64 (of_z w64 (to_z w64 (of_z w64 w.high) +ℤ pos 1)) ≡ w.high +ℤ pos 1
one_more_read {w} n = rw (to_z-of_z w64 w.high (high_fits n)) (to_z-of_z w64 _ (one_more_fits n))

-- ---- the low words' sum is what is left of it, and 2^64 if it carried
held_carry : (h m a p l : ℤ) → (a +ℤ p) ≡ (m +ℤ l) → ((h +ℤ pos 1) *ℤ m +ℤ l) ≡ ((h *ℤ m +ℤ a) +ℤ p)
held_carry = over 5 _ (λ ρ. simp (linear, ρ) (omega arith))

held_none : (h m a p l : ℤ) → (a +ℤ p) ≡ l → (h *ℤ m +ℤ l) ≡ ((h *ℤ m +ℤ a) +ℤ p)
held_none = over 5 _ (λ ρ. simp linear (omega arith))

module _ {w : Wide} (n : Near 1000 w) {p l : ℕ} (a : w.low < 2 ^ 64) (b : p < 2 ^ 64) (e : l ≡ (w.low + p) % 2 ^ 64) where
  pub raised_carry : l < p → Raised w p (record { high = to_z w64 (of_z w64 (to_z w64 (of_z w64 w.high) +ℤ pos 1)); low = l })
  unfolding held
  raised_carry c =
      let f : w.low + p ≡ 2 ^ 64 + l = omega (arith, a, b, e, c) in
      rw (one_more_read n)
      (record { is = held_carry w.high (pos (2 ^ 64)) (pos w.low) (pos p) (pos l) (ap pos f); least = more w.high; most = ≤ℤ_refl _ })

  pub raised_none : p ≤ l → Raised w p (record { high = to_z w64 (of_z w64 w.high); low = l })
  unfolding held
  raised_none c =
      let f : w.low + p ≡ l = omega (arith, a, b, e, c) in
      rw (to_z-of_z w64 w.high (high_fits n))
      (record { is = held_none w.high (pos (2 ^ 64)) (pos w.low) (pos p) (pos l) (ap pos f); least = ≤ℤ_refl _; most = more w.high })
