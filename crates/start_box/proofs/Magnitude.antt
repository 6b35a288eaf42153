-- The magnitude of an interval: how the code takes it, and how large it is.
use mathlib.Core.Path.{◌≡◌}
use mathlib.Core.Bool.{true}
use native.Mathlib.Omega.{arith}
use lib.IntN.{ℤ, pos, negsuc, neg_ℤ, ◌-ℤ◌}
use lib.Signed.{◌≤ℤ◌, ◌<ℤ◌}
use mir.Syntax.{w64}
use mir.Val.{to_z, of_z}
use mir.ValLaws.{to_z-of_z}
use Rattle.integer.specs.Extremes.{maximum}
use Rattle.integer.proofs.Linear.{linear, over}
use Rattle.integer.proofs.Order.{trans, antisym}
use Rattle.integer.proofs.Extremes.{max_ind, le_max_left, le_max_right, max_le}
use Rattle.integer.proofs.Summing.{Term}
use Rattle.interval.specs.declared.Interval.{Interval}
use Rattle.interval.specs.Interval.{lowest, highest, acceptable}
use Rattle.interval.proofs.Range.{Within, is_sound, turn_fits, read}
use Rattle.start_box.specs.Sums.{absolute, magnitude}

pub absolute_above : (z : ℤ) → pos 0 ≤ℤ absolute z
unfolding absolute
absolute_above z = max_ind z (neg_ℤ z) (λ m. pos 0 ≤ℤ m) (up z) (down z)
  where
    up : (z : ℤ) → z <ℤ neg_ℤ z → pos 0 ≤ℤ neg_ℤ z
    up = over 1 _ (λ ρ. simp (linear, ρ) (omega arith))

    down : (z : ℤ) → neg_ℤ z ≤ℤ z → pos 0 ≤ℤ z
    down = over 1 _ (λ ρ. simp (linear, ρ) (omega arith))

absolute_at_most : {z : ℤ} → Within z → absolute z ≤ℤ highest
unfolding absolute lowest highest
absolute_at_most {z} h = max_le z (neg_ℤ z) (pos 2000000000) h.high (turn z h.low)
  where
    turn : (z : ℤ) → negsuc 1999999999 ≤ℤ z → neg_ℤ z ≤ℤ pos 2000000000
    turn = over 1 _ (λ ρ. simp (linear, ρ) (omega arith))

pub magnitude_term : (v : Interval) → acceptable v ≡ true → Term 2000000000 (magnitude v)
unfolding magnitude highest
magnitude_term v e =
    let s = is_sound v e in
    record {
      above = trans (absolute_above v.lo) (le_max_left _ (absolute v.hi));
      at_most = max_le _ _ highest (absolute_at_most s.lo_in) (absolute_at_most s.hi_in);
    }

-- an end with its sign turned, as the code has it
pub turned_read : {z : ℤ} → Within z → to_z w64 (of_z w64 (pos 0 -ℤ to_z w64 (of_z w64 z))) ≡ pos 0 -ℤ z
turned_read {z} h = rw (read h) (to_z-of_z w64 (pos 0 -ℤ z) (turn_fits h))

-- with the ends in sequence, two of the four numbers are enough
pub magnitude_is : (v : Interval) → acceptable v ≡ true → maximum (pos 0 -ℤ v.lo) v.hi ≡ magnitude v
unfolding magnitude absolute
magnitude_is v e =
    let a = v.lo in
    let b = v.hi in
    let o = (is_sound v e).order in
    let most = maximum (pos 0 -ℤ a) b in
    antisym _ _
    (max_le (pos 0 -ℤ a) b _ (trans (minus a) (trans (le_max_right a (neg_ℤ a)) (le_max_left _ (maximum b (neg_ℤ b))))) (trans (le_max_left b (neg_ℤ b)) (le_max_right (maximum a (neg_ℤ a)) _)))
    (max_le _ _ most
    (max_le a (neg_ℤ a) most (trans o (le_max_right (pos 0 -ℤ a) b)) (trans (turned a) (le_max_left (pos 0 -ℤ a) b)))
    (max_le b (neg_ℤ b) most (le_max_right (pos 0 -ℤ a) b) (trans (below a b o) (le_max_left (pos 0 -ℤ a) b))))
  where
    minus : (a : ℤ) → (pos 0 -ℤ a) ≤ℤ neg_ℤ a
    minus = over 1 _ (λ ρ. simp (linear, ρ) (omega arith))

    turned : (a : ℤ) → neg_ℤ a ≤ℤ (pos 0 -ℤ a)
    turned = over 1 _ (λ ρ. simp (linear, ρ) (omega arith))

    below : (a b : ℤ) → a ≤ℤ b → neg_ℤ b ≤ℤ (pos 0 -ℤ a)
    below = over 2 _ (λ ρ. simp (linear, ρ) (omega arith))
