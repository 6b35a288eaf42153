-- A sum that was written is read again, and can be a sum; the others stay as they were.
use mathlib.Core.Path.{◌≡◌, ap₂, ◌∙◌}
use mathlib.Core.Bool.{true, ◌&&◌}
use mathlib.Core.Logic.{◌≢◌}
use mathlib.Core.List.{List}
use Prim.Native.Nat.{ℕ, ◌+◌, ◌*◌, ◌^◌, ◌<◌}
use native.Mathlib.Omega.{arith}
use lib.IntN.{ℤ, pos, neg_ℤ, ◌+ℤ◌, ◌-ℤ◌, ◌*ℤ◌}
use lib.ListN.{get_or, set, length, length-set}
use lib.Signed.{◌≤ℤ◌, ◌<ℤ◌, lt_z_yes}
use lib.Seq.{get_or-set_same, get_or-set_other}
use Rattle.integer.specs.Rounding.{floor_div}
use Rattle.integer.proofs.Linear.{linear, reading, ring, over}
use Rattle.integer.proofs.Order.{yes_le}
use Rattle.integer.proofs.Rounding.{floor_low, floor_high}
use Rattle.interval.specs.declared.Interval.{Interval}
use Rattle.interval.proofs.Range.{same_ends}
use Rattle.kept_sums.specs.Kept.{base, shift, end_at, put_end, sum_at, put_sum, end_ready, sum_ready}

pub base_above : pos 0 <ℤ base
base_above = lt_z_yes tt

-- ---- the two numbers of an end
length_put_end : (K : List ℤ) (p : ℕ) (z : ℤ) → length (put_end K p z) ≡ length K
unfolding put_end
length_put_end K p z = simp length-set

high_put : (K : List ℤ) (p : ℕ) (z : ℤ) → p < length K → get_or (put_end K p z) p (pos 0) ≡ floor_div z base
unfolding put_end
high_put K p z h =
    get_or-set_other (set K p (floor_div z base)) (p + 1) p (z -ℤ floor_div z base *ℤ base -ℤ shift) (pos 0) (omega arith) ∙ get_or-set_same K p (floor_div z base) (pos 0) h

low_put : (K : List ℤ) (p : ℕ) (z : ℤ) → p + 1 < length K → get_or (put_end K p z) (p + 1) (pos 0) ≡ z -ℤ floor_div z base *ℤ base -ℤ shift
unfolding put_end
low_put K p z h = get_or-set_same (set K p (floor_div z base)) (p + 1) (z -ℤ floor_div z base *ℤ base -ℤ shift) (pos 0) (simp length-set h)

number_put_other : (K : List ℤ) (p q : ℕ) (z : ℤ) → q ≢ p → q ≢ p + 1 → get_or (put_end K p z) q (pos 0) ≡ get_or K q (pos 0)
unfolding put_end
number_put_other K p q z h k =
    get_or-set_other (set K p (floor_div z base)) (p + 1) q (z -ℤ floor_div z base *ℤ base -ℤ shift) (pos 0) k ∙ get_or-set_other K p q (floor_div z base) (pos 0) h

-- ---- an end
end_put_same : (K : List ℤ) (p : ℕ) (z : ℤ) → p + 1 < length K → end_at (put_end K p z) p ≡ z
unfolding end_at
end_put_same K p z h = rw (high_put K p z (omega arith), low_put K p z h) (go z (floor_div z base *ℤ base) shift)
  where
    go : (z a h : ℤ) → (a +ℤ ((z -ℤ a -ℤ h) +ℤ h)) ≡ z
    go = over 3 _ (λ ρ. simp reading (ring _ _ _ tt))

module _ (K : List ℤ) (p q : ℕ) (z : ℤ) (a : q ≢ p) (b : q ≢ p + 1) (c : q + 1 ≢ p) where
  end_put_other : end_at (put_end K p z) q ≡ end_at K q
  unfolding end_at
  end_put_other = rw (number_put_other K p q z a b, number_put_other K p (q + 1) z c (omega arith))

  ready_end_other : end_ready (put_end K p z) q ≡ end_ready K q
  unfolding end_ready
  ready_end_other = rw (number_put_other K p q z a b)

-- an end that two numbers can be
abbrev pub EndSmall : ℤ → Type 0
EndSmall z = (neg_ℤ (pos (2 ^ 67)) ≤ℤ z) × (z ≤ℤ pos (2 ^ 67))

ready_end_same : (K : List ℤ) (p : ℕ) (z : ℤ) → p + 1 < length K → EndSmall z → end_ready (put_end K p z) p ≡ true
unfolding end_ready
ready_end_same K p z h s =
    let b = bounded (floor_div z base) z s.0 s.1 (floor_low z base base_above) (floor_high z base base_above) in
    rw (high_put K p z (omega arith), yes_le _ _ b.0) (yes_le _ _ b.1)
  where
    bounded : (f z : ℤ) → neg_ℤ (pos (2 ^ 67)) ≤ℤ z → z ≤ℤ pos (2 ^ 67) → (f *ℤ base) ≤ℤ z → z <ℤ (f *ℤ base +ℤ base)
        → (neg_ℤ (pos 8) ≤ℤ f) × (f ≤ℤ pos 8)
    bounded = over 2 _ (λ ρ. simp (linear, ρ) (omega arith))

-- ---- a sum
pub length_put_sum : (K : List ℤ) (i : ℕ) (v : Interval) → length (put_sum K i v) ≡ length K
unfolding put_sum
length_put_sum K i v = length_put_end (put_end K (4 * i) v.lo) (4 * i + 2) v.hi ∙ length_put_end K (4 * i) v.lo

module _ (K : List ℤ) (i : ℕ) (v : Interval) (h : 4 * i + 3 < length K) where
  room : 4 * i + 2 + 1 < length (put_end K (4 * i) v.lo)
  room = rw (length_put_end K (4 * i) v.lo) (omega arith)

  pub sum_put_same : sum_at (put_sum K i v) i ≡ v
  unfolding sum_at put_sum
  sum_put_same =
      same_ends _ _
      (end_put_other (put_end K (4 * i) v.lo) (4 * i + 2) (4 * i) v.hi (omega arith) (omega arith) (omega arith) ∙ end_put_same K (4 * i) v.lo (omega arith))
      (end_put_same (put_end K (4 * i) v.lo) (4 * i + 2) v.hi room)

  pub ready_put_same : EndSmall v.lo → EndSmall v.hi → sum_ready (put_sum K i v) i ≡ true
  unfolding sum_ready put_sum
  ready_put_same l u =
      ap₂ ◌&&◌
      (ready_end_other (put_end K (4 * i) v.lo) (4 * i + 2) (4 * i) v.hi (omega arith) (omega arith) (omega arith) ∙ ready_end_same K (4 * i) v.lo (omega arith) l)
      (ready_end_same (put_end K (4 * i) v.lo) (4 * i + 2) v.hi room u)

module _ (K : List ℤ) (i j : ℕ) (v : Interval) (h : j ≢ i) where
  pub sum_put_other : sum_at (put_sum K i v) j ≡ sum_at K j
  unfolding sum_at put_sum
  sum_put_other =
      same_ends _ _
      (end_put_other (put_end K (4 * i) v.lo) (4 * i + 2) (4 * j) v.hi (omega arith) (omega arith) (omega arith) ∙ end_put_other K (4 * i) (4 * j) v.lo (omega arith) (omega arith) (omega arith))
      (end_put_other (put_end K (4 * i) v.lo) (4 * i + 2) (4 * j + 2) v.hi (omega arith) (omega arith) (omega arith) ∙ end_put_other K (4 * i) (4 * j + 2) v.lo (omega arith) (omega arith) (omega arith))

  pub ready_put_other : sum_ready (put_sum K i v) j ≡ sum_ready K j
  unfolding sum_ready put_sum
  ready_put_other =
      ap₂ ◌&&◌
      (ready_end_other (put_end K (4 * i) v.lo) (4 * i + 2) (4 * j) v.hi (omega arith) (omega arith) (omega arith) ∙ ready_end_other K (4 * i) (4 * j) v.lo (omega arith) (omega arith) (omega arith))
      (ready_end_other (put_end K (4 * i) v.lo) (4 * i + 2) (4 * j + 2) v.hi (omega arith) (omega arith) (omega arith) ∙ ready_end_other K (4 * i) (4 * j + 2) v.lo (omega arith) (omega arith) (omega arith))
