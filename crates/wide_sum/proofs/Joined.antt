-- Two wide numbers added: the low words with their carry, then the high words.
use Rattle.std.proofs.Common.{◌≡◌, ◌^◌, ℤ, pos, ◌+ℤ◌, ◌*ℤ◌, neg_ℤ, ◌≤ℤ◌, arith, w64, SFits, to_z, of_z}
use Rattle.integer.proofs.Linear.{linear, over}
use Rattle.integer.proofs.Machine.{op_read}
use Rattle.interval.specs.Interval.{exact_sum}
use Rattle.wide_sum.specs.declared.Wide.{Wide}
use Rattle.wide_sum.specs.declared.WideInterval.{WideInterval}
use Rattle.wide_sum.specs.Wide.{held, held_both}
use Rattle.wide_sum.specs.Code.{Near, Raised, Joined, JoinedBoth}
use Rattle.wide_sum.proofs.Near.{near_more, moved_fits}
use Rattle.wide_sum.proofs.Carry.{high_fits}

-- u is v and the low word of w
module _ {v w u : Wide} (n : Near 900 v) (m : Near 90 w) (r : Raised v w.low u) where
  sum_near : Near 1000 (record { high = u.high +ℤ w.high; low = u.low })
  sum_near =
      let b = go v.high w.high u.high n.low n.high m.low m.high r.least r.most in
      record { low = b.0; high = b.1 }
    where
      go : (v w u : ℤ) → neg_ℤ (pos 900) ≤ℤ v → v ≤ℤ pos 900 → neg_ℤ (pos 90) ≤ℤ w → w ≤ℤ pos 90 → v ≤ℤ u → u ≤ℤ (v +ℤ pos 1)
          → (neg_ℤ (pos 1000) ≤ℤ (u +ℤ w)) × ((u +ℤ w) ≤ℤ pos 1000)
      go = over 3 _ (λ ρ. simp (linear, ρ) (omega arith))

  raised_fits : SFits w64 u.high
  raised_fits = (moved_fits r.least r.most (near_more (omega arith) n)).0

  other_fits : SFits w64 w.high
  other_fits = high_fits (near_more (omega arith) m)

  sum_fits : SFits w64 (u.high +ℤ w.high)
  sum_fits = high_fits sum_near

  pub joined_is : Joined v w (record { high = to_z w64 (of_z w64 (to_z w64 (of_z w64 u.high) +ℤ to_z w64 (of_z w64 w.high))); low = u.low })
  unfolding held
  joined_is =
      rw (op_read ◌+ℤ◌ u.high w.high raised_fits other_fits sum_fits)
      (record {
        is = go u.high w.high (pos (2 ^ 64)) (pos u.low) (held v) (pos w.low) r.is;
        near = sum_near;
      })
    where
      go : (u w b l v p : ℤ) → (u *ℤ b +ℤ l) ≡ (v +ℤ p) → ((u +ℤ w) *ℤ b +ℤ l) ≡ (v +ℤ (w *ℤ b +ℤ p))
      go = over 6 _ (λ ρ. simp linear (omega arith))

-- both ends
pub both_joined : {v w r : WideInterval} → Joined v.lo w.lo r.lo → Joined v.hi w.hi r.hi → JoinedBoth v w r
unfolding held_both exact_sum
both_joined l h =
    record {
      is = λ i. record { lo = l.is i; hi = h.is i };
      near = record { lo_near = l.near; hi_near = h.near };
    }
