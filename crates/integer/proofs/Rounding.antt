-- Floor and ceiling of a quotient, once for any positive divisor d: what characterises them, that they grow with z, that they are unique.
use mathlib.Core.Path.{◌≡◌, refl, sym, ap, ◌∙◌}
use mathlib.Core.Logic.{◌↔◌, ◌⊎◌, ⊎_elim}
use Prim.Native.Nat.{ℕ, zero, suc, ◌<◌}
use native.Mathlib.Omega.{arith}
use native.Mathlib.Nat.{div-add-mod, mod-lt}
use lib.Dec.{ltb→lt}
use lib.IntN.{ℤ, pos, negsuc, neg_ℤ, ◌+ℤ◌, ◌-ℤ◌, ◌*ℤ◌, neg_ℤ-neg_ℤ, zero-*ℤ}
use lib.Signed.{◌≤ℤ◌, ◌<ℤ◌, shr_z, clash_ℤ, <ℤ-≤ℤ_trans}
use Rattle.integer.specs.Rounding.{floor_div, ceil_div}
use Rattle.integer.proofs.Difference.{differences}
use Rattle.integer.proofs.Linear.{linear, reading, ring, over}
use Rattle.integer.proofs.Order.{trans, turn_le, turn_lt, whole_below, antisym, lt_le, lt_or_ge, mono, mono_left, anti_left}

by_natural : (z : ℤ) (s : ℕ) → 0 < s → ((shr_z z s *ℤ pos s) ≤ℤ z) × (z <ℤ (shr_z z s *ℤ pos s +ℤ pos s))
by_natural (pos a) s h = simp differences (omega (arith, div-add-mod a s, mod-lt a h))
by_natural (negsuc a) s h = simp differences (omega (arith, div-add-mod a s, mod-lt a h))

floor_both : (z d : ℤ) → pos 0 <ℤ d → ((floor_div z d *ℤ d) ≤ℤ z) × (z <ℤ (floor_div z d *ℤ d +ℤ d))
unfolding floor_div
floor_both z (pos s) h = by_natural z s (ltb→lt 0 s h.lt)
floor_both z (negsuc s) h = absurd h.lt

module _ (z d : ℤ) (h : pos 0 <ℤ d) where
  pub floor_low : (floor_div z d *ℤ d) ≤ℤ z
  floor_low = (floor_both z d h).0

  pub floor_high : z <ℤ (floor_div z d *ℤ d +ℤ d)
  floor_high = (floor_both z d h).1

-- k·d ≤ z < (f + 1)·d only where k ≤ f
below : (z k f d : ℤ) → pos 0 <ℤ d → (k *ℤ d) ≤ℤ z → z <ℤ (f *ℤ d +ℤ d) → k ≤ℤ f
below z k f d h l u = whole_below k f z d h l (rewritten f d z u)
  where
    rewritten : (f d z : ℤ) → z <ℤ (f *ℤ d +ℤ d) → z <ℤ ((f +ℤ pos 1) *ℤ d)
    rewritten = over 3 _ (λ ρ. simp (linear, ρ) (omega arith))

-- the floor is the greatest k with k·d ≤ z
pub floor_iff : (z d k : ℤ) → pos 0 <ℤ d → (k ≤ℤ floor_div z d) ↔ ((k *ℤ d) ≤ℤ z)
floor_iff z d k h = (
  (λ l. trans (mono k (floor_div z d) d (lt_le h) l) (floor_low z d h)),
  (λ l. below z k (floor_div z d) d h l (floor_high z d h)),
)

-- and the only number with these bounds
pub floor_unique : (z d k : ℤ) → pos 0 <ℤ d → (k *ℤ d) ≤ℤ z → z <ℤ (k *ℤ d +ℤ d) → k ≡ floor_div z d
floor_unique z d k h l u =
    antisym k (floor_div z d) ((floor_iff z d k h).1 l) (below z (floor_div z d) k d h (floor_low z d h) u)

pub floor_mono : (y z d : ℤ) → pos 0 <ℤ d → y ≤ℤ z → floor_div y d ≤ℤ floor_div z d
floor_mono y z d h l = (floor_iff z d (floor_div y d) h).1 (trans (floor_low y d h) l)

-- a divisor below 0: both signs are turned
pub floor_turn : (z d : ℤ) → pos 0 <ℤ d → floor_div z (neg_ℤ d) ≡ floor_div (neg_ℤ z) d
unfolding floor_div
floor_turn z (pos zero) h = absurd h.lt
floor_turn z (pos (suc s)) h = refl
floor_turn z (negsuc s) h = absurd h.lt

pub ceil_turn : (z d : ℤ) → pos 0 <ℤ d → ceil_div z (neg_ℤ d) ≡ ceil_div (neg_ℤ z) d
unfolding ceil_div
ceil_turn z d h = ap neg_ℤ (floor_turn (neg_ℤ z) d h)

module _ (z d : ℤ) (h : pos 0 <ℤ d) where
  pub ceil_high : z ≤ℤ (ceil_div z d *ℤ d)
  unfolding ceil_div
  ceil_high = turn (floor_div (neg_ℤ z) d) z d (floor_low (neg_ℤ z) d h)
    where
      turn : (f z d : ℤ) → (f *ℤ d) ≤ℤ neg_ℤ z → z ≤ℤ (neg_ℤ f *ℤ d)
      turn = over 3 _ (λ ρ. simp linear (omega arith))

  pub ceil_low : (ceil_div z d *ℤ d -ℤ d) <ℤ z
  unfolding ceil_div
  ceil_low = turn (floor_div (neg_ℤ z) d) z d (floor_high (neg_ℤ z) d h)
    where
      turn : (f z d : ℤ) → neg_ℤ z <ℤ (f *ℤ d +ℤ d) → (neg_ℤ f *ℤ d -ℤ d) <ℤ z
      turn = over 3 _ (λ ρ. simp linear (omega arith))

-- the ceiling is the least k with z ≤ k·d
pub ceil_iff : (z d k : ℤ) → pos 0 <ℤ d → (ceil_div z d ≤ℤ k) ↔ (z ≤ℤ (k *ℤ d))
unfolding ceil_div
ceil_iff z d k h = (
  (λ l. out k d z ((floor_iff (neg_ℤ z) d (neg_ℤ k) h).0 (flip (floor_div (neg_ℤ z) d) k l))),
  (λ l. back (floor_div (neg_ℤ z) d) k ((floor_iff (neg_ℤ z) d (neg_ℤ k) h).1 (into k d z l))),
)
  where
    flip : (f k : ℤ) → neg_ℤ f ≤ℤ k → neg_ℤ k ≤ℤ f
    flip = over 2 _ (λ ρ. simp linear (omega arith))

    back : (f k : ℤ) → neg_ℤ k ≤ℤ f → neg_ℤ f ≤ℤ k
    back = over 2 _ (λ ρ. simp linear (omega arith))

    out : (k d z : ℤ) → (neg_ℤ k *ℤ d) ≤ℤ neg_ℤ z → z ≤ℤ (k *ℤ d)
    out = over 3 _ (λ ρ. simp linear (omega arith))

    into : (k d z : ℤ) → z ≤ℤ (k *ℤ d) → (neg_ℤ k *ℤ d) ≤ℤ neg_ℤ z
    into = over 3 _ (λ ρ. simp linear (omega arith))

pub ceil_unique : (z d k : ℤ) → pos 0 <ℤ d → z ≤ℤ (k *ℤ d) → (k *ℤ d -ℤ d) <ℤ z → k ≡ ceil_div z d
unfolding ceil_div
ceil_unique z d k h l u =
    sym (neg_ℤ-neg_ℤ k) ∙ ap neg_ℤ (floor_unique (neg_ℤ z) d (neg_ℤ k) h (turn k d z l u).0 (turn k d z l u).1)
  where
    turn : (k d z : ℤ) → z ≤ℤ (k *ℤ d) → (k *ℤ d -ℤ d) <ℤ z → ((neg_ℤ k *ℤ d) ≤ℤ neg_ℤ z) × (neg_ℤ z <ℤ (neg_ℤ k *ℤ d +ℤ d))
    turn = over 3 _ (λ ρ. simp linear (omega arith))

pub ceil_mono : (y z d : ℤ) → pos 0 <ℤ d → y ≤ℤ z → ceil_div y d ≤ℤ ceil_div z d
ceil_mono y z d h l = (ceil_iff y d (ceil_div z d) h).1 (trans l (ceil_high z d h))

pub floor_nonneg : (z d : ℤ) → pos 0 <ℤ d → (pos 0 ≤ℤ floor_div z d) ↔ (pos 0 ≤ℤ z)
floor_nonneg z d h = rw zero-*ℤ at (floor_iff z d (pos 0) h)

-- by a greater divisor, what is not negative falls and what is negative grows
module _ (z c d : ℤ) (h : pos 0 <ℤ c) (l : c ≤ℤ d) where
  above : pos 0 <ℤ d
  above = <ℤ-≤ℤ_trans h l

  pub floor_falls : pos 0 ≤ℤ z → floor_div z d ≤ℤ floor_div z c
  floor_falls n = (floor_iff z c (floor_div z d) h).1 (trans (mono_left (floor_div z d) c d ((floor_nonneg z d above).1 n) l) (floor_low z d above))

  pub floor_grows : z <ℤ pos 0 → floor_div z c ≤ℤ floor_div z d
  floor_grows n = (floor_iff z d (floor_div z c) above).1 (trans (anti_left (floor_div z c) c d (negative (lt_or_ge (floor_div z c) (pos 0))) l) (floor_low z c h))
    where
      negative : (floor_div z c <ℤ pos 0) ⊎ (pos 0 ≤ℤ floor_div z c) → floor_div z c ≤ℤ pos 0
      negative = ⊎_elim (λ k. lt_le k) (λ k. clash_ℤ n ((floor_nonneg z c h).0 k))

-- the ceiling likewise, by the floor of the negative
module _ (z c d : ℤ) (h : pos 0 <ℤ c) (l : c ≤ℤ d) where
  pub ceil_falls : pos 0 <ℤ z → ceil_div z d ≤ℤ ceil_div z c
  unfolding ceil_div
  ceil_falls n = turn_le (floor_grows (neg_ℤ z) c d h l (turn_lt n))

  pub ceil_grows : z ≤ℤ pos 0 → ceil_div z c ≤ℤ ceil_div z d
  unfolding ceil_div
  ceil_grows n = turn_le (floor_falls (neg_ℤ z) c d h l (turn_le n))

-- k whole divisors more: the floor is k more, so a bias makes any dividend a natural number
pub floor_biased : (z d k : ℤ) → pos 0 <ℤ d → floor_div (z +ℤ k *ℤ d) d -ℤ k ≡ floor_div z d
floor_biased z d k h =
    let f = floor_div (z +ℤ k *ℤ d) d in
    floor_unique z d (f -ℤ k) h (low f z d k (floor_low (z +ℤ k *ℤ d) d h)) (high f z d k (floor_high (z +ℤ k *ℤ d) d h))
  where
    low : (f z d k : ℤ) → (f *ℤ d) ≤ℤ (z +ℤ k *ℤ d) → ((f -ℤ k) *ℤ d) ≤ℤ z
    low = over 4 _ (λ ρ. simp (linear, ρ) (omega arith))

    high : (f z d k : ℤ) → (z +ℤ k *ℤ d) <ℤ (f *ℤ d +ℤ d) → z <ℤ ((f -ℤ k) *ℤ d +ℤ d)
    high = over 4 _ (λ ρ. simp (linear, ρ) (omega arith))

-- the ceiling is the floor of what is d − 1 more
pub ceil_floor : (z d : ℤ) → pos 0 <ℤ d → floor_div (z +ℤ (d -ℤ pos 1)) d ≡ ceil_div z d
ceil_floor z d h =
    let y = z +ℤ (d -ℤ pos 1) in
    let f = floor_div y d in
    ceil_unique z d f h (high f z d (floor_high y d h)) (low f z d (floor_low y d h))
  where
    high : (f z d : ℤ) → (z +ℤ (d -ℤ pos 1)) <ℤ (f *ℤ d +ℤ d) → z ≤ℤ (f *ℤ d)
    high = over 3 _ (λ ρ. simp (linear, ρ) (omega arith))

    low : (f z d : ℤ) → (f *ℤ d) ≤ℤ (z +ℤ (d -ℤ pos 1)) → (f *ℤ d -ℤ d) <ℤ z
    low = over 3 _ (λ ρ. simp (linear, ρ) (omega arith))

pub ceil_biased : (z d k : ℤ) → pos 0 <ℤ d → floor_div (z +ℤ (k *ℤ d +ℤ (d -ℤ pos 1))) d -ℤ k ≡ ceil_div z d
ceil_biased z d k h = ap (λ (y : ℤ). floor_div y d -ℤ k) (regroup z (k *ℤ d) (d -ℤ pos 1)) ∙ floor_biased (z +ℤ (d -ℤ pos 1)) d k h ∙ ceil_floor z d h
  where
    regroup : (z a b : ℤ) → z +ℤ (a +ℤ b) ≡ (z +ℤ b) +ℤ a
    regroup = over 3 _ (λ ρ. simp reading (ring _ _ _ tt))
