-- The machine holds the width of each component of a box, and the sum of the first few.
use mathlib.Core.Path.{◌≡◌}
use mathlib.Core.List.{List}
use Prim.Native.Nat.{ℕ, ◌+◌, ◌*◌, ◌≤◌, ◌<◌}
use native.Mathlib.Omega.{arith}
use lib.IntN.{ℤ, pos, negsuc, ◌+ℤ◌, ◌-ℤ◌}
use lib.Signed.{◌≤ℤ◌}
use mir.Syntax.{w64}
use mir.Val.{SFits, to_z, of_z}
use Rattle.integer.proofs.Linear.{linear, over}
use Rattle.integer.proofs.Summing.{Term, add_safe, add_is, sum_read}
use Rattle.interval.specs.declared.Interval.{Interval}
use Rattle.interval.specs.Interval.{lowest, highest, width}
use Rattle.interval.proofs.Range.{Sound, is_sound, difference_fits, read}
use Rattle.inputs.specs.Place.{at, widths}
use Rattle.narrower.proofs.Box.{Box}

-- ---- one width: at most that of the whole range
abbrev widest : ℕ
widest = 4_000_000_000

term : {v : Interval} → Sound v → Term widest (width v)
unfolding lowest highest
term {v} h = record { above = above v.lo v.hi h.order; at_most = at_most v.lo v.hi h.lo_in.low h.hi_in.high }
  where
    above : (a b : ℤ) → a ≤ℤ b → pos 0 ≤ℤ (b -ℤ a)
    above = over 2 _ (λ ρ. simp (linear, ρ) (omega arith))

    at_most : (a b : ℤ) → negsuc 1_999_999_999 ≤ℤ a → b ≤ℤ pos 2_000_000_000 → (b -ℤ a) ≤ℤ pos 4_000_000_000
    at_most = over 2 _ (λ ρ. simp (linear, ρ) (omega arith))

-- as the code subtracts it
abbrev subtracted : Interval → ℤ
subtracted v = to_z w64 (of_z w64 v.hi) -ℤ to_z w64 (of_z w64 v.lo)

-- ---- the sum
module _ {n : ℕ} {X : List ℤ} (b : Box n X) where
  component : (i : ℕ) → Sound (at X i)
  component i = is_sound (at X i) (b.sound.each i)

  each : (i : ℕ) → i < n → Term widest (width (at X i))
  each i h = term (component i)

  few : widest * n ≤ 1_000_000_000_000_000_000
  few = omega (arith, b.few)

  -- the width of component i, and the sum with it
  module _ (i : ℕ) {v : Interval} (e : v ≡ at X i) where
    subtracted_is : subtracted v ≡ width (at X i)
    subtracted_is = rw (e, read (component i).hi_in, read (component i).lo_in)

    pub width_safe : SFits w64 (subtracted v)
    width_safe = rw subtracted_is (difference_fits (component i).hi_in (component i).lo_in)

    module _ (h : i < n) {sum : ℤ} (f : sum ≡ widths X i 0) where
      pub sum_safe : SFits w64 (sum +ℤ to_z w64 (of_z w64 (subtracted v)))
      unfolding widths
      sum_safe = add_safe _ widest n each few i h f subtracted_is

      pub sum_next : to_z w64 (of_z w64 (sum +ℤ to_z w64 (of_z w64 (subtracted v)))) ≡ widths X (i + 1) 0
      unfolding widths
      sum_next = add_is _ widest n each few i h f subtracted_is

  pub sum_end : {sum : ℤ} {i : ℕ} → sum ≡ widths X i 0 → i ≡ n → sum ≡ widths X n 0
  unfolding widths
  sum_end = sum_read _ widest n each few
