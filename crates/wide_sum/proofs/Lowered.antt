-- Adding a number below 0: its bits are those of 2^64 and it, and 2^64 goes off again. And what adding comes to for both ends.
use Rattle.std.proofs.Common.{◌≡◌, ℕ, ◌^◌, ℤ, pos, negsuc, ◌+ℤ◌, ◌-ℤ◌, ◌*ℤ◌, nat_abs, ◌≤ℤ◌, ◌<ℤ◌, refl, ap, ◌∙◌, subst, arith, w64, SFits, to_z, of_z}
use mir.ValLaws.{to_z-of_z}
use Rattle.std.proofs.lemmas.Int.{ints}
use Rattle.integer.proofs.Linear.{linear, over}
use Rattle.interval.specs.declared.Interval.{Interval}
use Rattle.interval.specs.Interval.{exact_sum}
use Rattle.wide_sum.specs.declared.Wide.{Wide}
use Rattle.wide_sum.specs.declared.WideInterval.{WideInterval}
use Rattle.wide_sum.specs.Wide.{held, held_both}
use Rattle.wide_sum.specs.Code.{Near, Raised, Added, AddedBoth}
use Rattle.wide_sum.proofs.Near.{moved_near, moved_fits}

-- a number that is not negative, as a natural
pub natural_is : (z : ℤ) → pos 0 ≤ℤ z → pos (nat_abs z) ≡ z
natural_is (pos n) h = refl
natural_is (negsuc n) h = absurd h.le

-- the bits of a number below 0 are those of 2^64 and it
bits_below : (p : ℤ) → SFits w64 p → p <ℤ pos 0 → pos (of_z w64 p) ≡ p +ℤ pos (2 ^ 64)
bits_below p f u = omega (arith, ints)

-- 2^64 goes off again
pub lowered_is : {w v : Wide} {p : ℤ} {b : ℕ} → SFits w64 p → p <ℤ pos 0 → Near 1000 w → b ≡ of_z w64 (to_z w64 (of_z w64 p)) → Raised w b v
    → Added w p (record { high = to_z w64 (of_z w64 (to_z w64 (of_z w64 v.high) -ℤ pos 1)); low = v.low })
unfolding held
lowered_is {w} {v} {p} {b} f u n e r =
    let t = moved_fits r.least r.most n in
    let h = rw (to_z-of_z w64 p f) at e in
    rw (to_z-of_z w64 v.high t.0, to_z-of_z w64 (v.high -ℤ pos 1) t.1)
    (record {
      is = go v.high (pos v.low) (held w) p (pos b) r.is (ap pos h ∙ bits_below p f u);
      near = λ k m. (moved_near r.least r.most k m).1;
    })
  where
    go : (v l w p b : ℤ) → (v *ℤ pos (2 ^ 64) +ℤ l) ≡ (w +ℤ b) → b ≡ (p +ℤ pos (2 ^ 64)) → ((v -ℤ pos 1) *ℤ pos (2 ^ 64) +ℤ l) ≡ (w +ℤ p)
    go = over 5 _ (λ ρ. simp (linear, ρ) (omega arith))

-- a number that is not below 0
pub raised_is : {w v : Wide} {p : ℤ} → SFits w64 p → pos 0 ≤ℤ p → Raised w (nat_abs (to_z w64 (of_z w64 p))) v → Added w p v
raised_is {w} {v} {p} f h r =
    record {
      is = r.is ∙ ap (λ z. held w +ℤ z) (rw (to_z-of_z w64 p f) (natural_is p h));
      near = λ k m. (moved_near r.least r.most k m).0;
    }

-- a number that is read back from its bits
pub read_added : {w v : Wide} {p : ℤ} → SFits w64 p → Added w (to_z w64 (of_z w64 p)) v → Added w p v
read_added {w} {v} {p} f r = subst (λ (z : ℤ). Added w z v) (to_z-of_z w64 p f) r

-- both ends
pub both_added : {acc r : WideInterval} {v : Interval} → Added acc.lo v.lo r.lo → Added acc.hi v.hi r.hi → AddedBoth acc v r
unfolding held_both exact_sum
both_added l h =
    record {
      is = λ i. record { lo = l.is i; hi = h.is i };
      near = λ k n. record { lo_near = l.near k n.lo_near; hi_near = h.near k n.hi_near };
    }
