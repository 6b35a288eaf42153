-- A kept sum that is the one worked out afresh, and that the operations take for a sum.
use mathlib.Core.Path.{◌≡◌, sym, ◌∙◌}
use mathlib.Core.Logic.{◌≢◌}
use mathlib.Core.Bool.{Bool, true, false}
use mathlib.Core.List.{List}
use Prim.Native.Nat.{ℕ, ◌*◌, ◌^◌, ◌≤◌, ◌<◌}
use native.Mathlib.Omega.{arith}
use lib.Dec.{le→leb}
use lib.IntN.{ℤ, pos, neg_ℤ}
use lib.ListN.{length}
use lib.Signed.{◌≤ℤ◌}
use Rattle.integer.proofs.Linear.{linear, over}
use Rattle.integer.proofs.Order.{trans}
use Rattle.interval.specs.declared.Interval.{Interval}
use Rattle.interval.specs.Interval as interval
use Rattle.inputs.specs.Place.{put}
use Rattle.inputs.specs.Code.{Sound}
use Rattle.inputs.specs.System.{System}
use Rattle.rows.proofs.Size.{Small, zero_small}
use Rattle.rows.proofs.Sum.{exactly_small}
use Rattle.kept_sums.specs.Kept.{sum_at, put_sum, sum_ready}
use Rattle.kept_sums.proofs.Kept.{EndSmall, sum_put_same, sum_put_other, ready_put_same, ready_put_other}
use Rattle.half_rows.specs.Rows.{beside, side}
use Rattle.half_rows_afresh.proofs.Sums.{Unread, side_other}

-- ---- a side's sum is small enough to be kept
few_beside : (back : Bool) (n i : ℕ) → i < n → beside back n i ≤ n
unfolding beside
few_beside true n i h = omega arith
few_beside false n i h = omega arith

small_end : {k : ℕ} {v : Interval} → k ≤ 2 ^ 67 → Small k v → EndSmall v.lo × EndSmall v.hi
small_end {k} {v} b h =
    let m : pos k ≤ℤ pos (2 ^ 67) = record { le = le→leb k (2 ^ 67) b } in
    (go (pos k) v.lo m h.low (trans h.order h.high), go (pos k) v.hi m (trans h.low h.order) h.high)
  where
    go : (k z : ℤ) → k ≤ℤ pos (2 ^ 67) → neg_ℤ k ≤ℤ z → z ≤ℤ k → EndSmall z
    go = over 2 _ (λ ρ. simp (linear, ρ) (omega arith))

side_small : (back : Bool) (s : System) (X : List ℤ) (i : ℕ) → s.size ≤ 32 → i < s.size → Sound s.matrix → Sound X
    → EndSmall (side back s X i).lo × EndSmall (side back s X i).hi
unfolding side
side_small back s X i few h a b =
    let l = few_beside back s.size i h in
    small_end (omega arith) (exactly_small s.matrix _ X _ (beside back s.size i) 0 0 interval.zero a b zero_small)

-- ---- the sum of row i
pub record Kept (back : Bool) (s : System) (X K : List ℤ) (i : ℕ) : Type 0 where
  pub is : sum_at K i ≡ side back s X i
  pub ready : sum_ready K i ≡ true

-- the sums of one side, of every row
pub record AllKept (back : Bool) (s : System) (X K : List ℤ) : Type 0 where
  pub long : length K ≡ 4 * s.size
  pub each : (j : ℕ) → j < s.size → Kept back s X K j

module _ (back : Bool) (s : System) (X K : List ℤ) where
  -- a sum that was put there
  pub kept_put_same : (i : ℕ) {v : Interval} → v ≡ side back s X i → s.size ≤ 32 → Sound s.matrix → Sound X → length K ≡ 4 * s.size → i < s.size
      → Kept back s X (put_sum K i v) i
  kept_put_same i {v} e few a b l h =
      let k = side_small back s X i few h a b in
      rw e (record { is = sum_put_same K i _ (omega arith); ready = ready_put_same K i _ (omega arith) k.0 k.1 })

  -- another sum, or a component that the side does not read
  pub kept_put_other : (i j : ℕ) (v : Interval) → j ≢ i → Kept back s X K j → Kept back s X (put_sum K i v) j
  kept_put_other i j v h k = record { is = sum_put_other K i j v h ∙ k.is; ready = ready_put_other K i j v h ∙ k.ready }

  pub kept_unread : (i r : ℕ) (w : Interval) → Unread back i r → Kept back s X K i → Kept back s (put X r w) K i
  kept_unread i r w h k = record { is = k.is ∙ sym (side_other s X i r w back h); ready = k.ready }
