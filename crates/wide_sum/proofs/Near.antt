-- How near 0 a high word is: a further bound holds too, and a carry, or a 2^64 that goes off, moves it by one at most.
use Rattle.std.proofs.Common.{ℕ, ◌+◌, ◌≤◌, ℤ, pos, ◌+ℤ◌, ◌-ℤ◌, neg_ℤ, ◌≤ℤ◌, arith, le→leb, w64, SFits}
use Rattle.integer.proofs.Linear.{linear, over}
use Rattle.integer.proofs.Machine.{fits64}
use Rattle.wide_sum.specs.declared.Wide.{Wide}
use Rattle.wide_sum.specs.declared.WideInterval.{WideInterval}
use Rattle.wide_sum.specs.Code.{Near, NearBoth}

pub near_more : {k l : ℕ} {w : Wide} → k ≤ l → Near k w → Near l w
near_more {k} {l} {w} h n =
    let b : pos k ≤ℤ pos l = record { le = le→leb k l h } in
    record { low = low (pos k) (pos l) w.high b n.low; high = high (pos k) (pos l) w.high b n.high }
  where
    low : (k l h : ℤ) → k ≤ℤ l → neg_ℤ k ≤ℤ h → neg_ℤ l ≤ℤ h
    low = over 3 _ (λ ρ. simp linear (omega arith))

    high : (k l h : ℤ) → k ≤ℤ l → h ≤ℤ k → h ≤ℤ l
    high = over 3 _ (λ ρ. simp linear (omega arith))

pub near_both_more : {k l : ℕ} {v : WideInterval} → k ≤ l → NearBoth k v → NearBoth l v
near_both_more h n = record { lo_near = near_more h n.lo_near; hi_near = near_more h n.hi_near }

near_fits : {w : Wide} → Near 1001 w → SFits w64 w.high
near_fits {w} n = go w.high n.low n.high
  where
    go : (h : ℤ) → neg_ℤ (pos 1001) ≤ℤ h → h ≤ℤ pos 1001 → SFits w64 h
    go = over 1 _ (λ ρ. simp (fits64, linear, ρ) (omega arith))

-- a high word h that is w's or one more; and h less one
module _ {w : Wide} {h : ℤ} (l : w.high ≤ℤ h) (u : h ≤ℤ (w.high +ℤ pos 1)) where
  pub moved_near : (k : ℕ) → Near k w → {m : ℕ} → Near (k + 1) (record { high = h; low = m }) × Near (k + 1) (record { high = h -ℤ pos 1; low = m })
  moved_near k n =
      let b = go (pos k) w.high h n.low n.high l u in
      (record { low = b.0; high = b.1 }, record { low = b.2; high = b.3 })
    where
      go : (k w h : ℤ) → neg_ℤ k ≤ℤ w → w ≤ℤ k → w ≤ℤ h → h ≤ℤ (w +ℤ pos 1)
          → (neg_ℤ (k +ℤ pos 1) ≤ℤ h) × (h ≤ℤ (k +ℤ pos 1)) × (neg_ℤ (k +ℤ pos 1) ≤ℤ (h -ℤ pos 1)) × ((h -ℤ pos 1) ≤ℤ (k +ℤ pos 1))
      go = over 3 _ (λ ρ. simp (linear, ρ) (omega arith))

  pub moved_fits : Near 1000 w → SFits w64 h × SFits w64 (h -ℤ pos 1)
  moved_fits n = let m = moved_near 1000 n {m = 0} in (near_fits m.0, near_fits m.1)
