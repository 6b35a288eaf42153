-- Turns of the loop that sums a row exactly; the products left are d − j.
use mathlib.Core.Path.{◌≡◌, refl, sym, ap, ◌∙◌}
use mathlib.Core.List.{List}
use Prim.Native.Nat.{ℕ, zero, suc, ◌+◌, ◌-◌, ◌≤◌, ◌<◌}
use native.Mathlib.Omega.{arith}
use native.Mathlib.Nat.{zero-add}
use lib.IntN.{ℤ, pos, ◌+ℤ◌, +ℤ_comm}
use Rattle.integer.proofs.Linear.{reading, ring, over}
use Rattle.interval.specs.declared.Interval.{Interval}
use Rattle.interval.specs.Interval.{zero as zeroInterval, exact_sum, exact_product}
use Rattle.interval.proofs.Range.{same_ends}
use Rattle.inputs.specs.Place.{at}
use Rattle.rows.specs.Sum.{exactly}

pub sum_assoc : (u v w : Interval) → exact_sum (exact_sum u v) w ≡ exact_sum u (exact_sum v w)
unfolding exact_sum
sum_assoc u v w = same_ends _ _ (assoc u.lo v.lo w.lo) (assoc u.hi v.hi w.hi)
  where
    assoc : (a b c : ℤ) → ((a +ℤ b) +ℤ c) ≡ (a +ℤ (b +ℤ c))
    assoc = over 3 _ (λ ρ. simp reading (ring _ _ _ tt))

-- ---- one product, and two that are added together
module _ (m : List ℤ) (p : ℕ) (x : List ℤ) (q : ℕ) (acc : Interval) where
  pub one_product : exactly m p x q 1 0 acc ≡ exact_sum acc (exact_product (at m p) (at x q))
  unfolding exactly
  one_product =
      let e : p + 0 ≡ p = omega arith in
      let f : q + 0 ≡ q = omega arith in
      rw (e, f)

  pub two_products : exactly m p x q 2 0 acc ≡ exact_sum acc (exact_sum (exact_product (at m p) (at x q)) (exact_product (at m (p + 1)) (at x (q + 1))))
  unfolding exactly
  two_products =
      let e : p + 0 ≡ p = omega arith in
      let f : q + 0 ≡ q = omega arith in
      rw (e, f) (sum_assoc _ _ _)

-- ---- in the row
module _ (m : List ℤ) (p : ℕ) (x : List ℤ) (q d : ℕ) where
  pub exactly_end : (j : ℕ) (acc : Interval) → d ≤ j → exactly m p x q (d - j) j acc ≡ acc
  unfolding exactly
  exactly_end j acc h = let e : d - j ≡ 0 = omega arith in rw e

  exactly_go : (j : ℕ) (acc : Interval) → j < d → exactly m p x q (d - j) j acc ≡ exactly m p x q (d - (j + 1)) (j + 1) (exact_sum acc (exact_product (at m (p + j)) (at x (q + j))))
  unfolding exactly
  exactly_go j acc h = let e : d - j ≡ suc (d - (j + 1)) = omega arith in rw e

  pub exactly_one : (j : ℕ) (acc : Interval) → j < d → exactly m p x q (d - j) j acc ≡ exactly m p x q (d - (j + 1)) (j + 1) (exactly m (p + j) x (q + j) 1 0 acc)
  exactly_one j acc h = exactly_go j acc h ∙ ap (exactly m p x q (d - (j + 1)) (j + 1)) (sym (one_product m (p + j) x (q + j) acc))

  pub exactly_two : (j : ℕ) (acc : Interval) → j + 1 < d → exactly m p x q (d - j) j acc ≡ exactly m p x q (d - (j + 2)) (j + 2) (exactly m (p + j) x (q + j) 2 0 acc)
  exactly_two j acc h =
      let e : j + 1 + 1 ≡ j + 2 = omega arith in
      let f : p + (j + 1) ≡ p + j + 1 = omega arith in
      let g : q + (j + 1) ≡ q + j + 1 = omega arith in
      exactly_go j acc (omega arith) ∙ exactly_go (j + 1) _ h
      ∙ rw (e, f, g, two_products m (p + j) x (q + j) acc) (ap (exactly m p x q (d - (j + 2)) (j + 2)) (sum_assoc _ _ _))

-- ---- nought
sum_comm : (u v : Interval) → exact_sum u v ≡ exact_sum v u
unfolding exact_sum
sum_comm u v = same_ends _ _ (+ℤ_comm u.lo v.lo) (+ℤ_comm u.hi v.hi)

pub sum_nought : (u : Interval) → exact_sum u zeroInterval ≡ u
unfolding exact_sum
sum_nought u = same_ends _ _ (go u.lo) (go u.hi)
  where
    go : (a : ℤ) → a +ℤ pos 0 ≡ a
    go = over 1 _ (λ ρ. simp (reading, ρ) (ring _ _ _ tt))

pub nought_sum : (u : Interval) → exact_sum zeroInterval u ≡ u
nought_sum u = sum_comm zeroInterval u ∙ sum_nought u

-- ---- parts of a row
module _ (m : List ℤ) (p : ℕ) (x : List ℤ) (q : ℕ) where
  -- what is there before them
  pub exactly_from : (d j : ℕ) (acc : Interval) → exactly m p x q d j acc ≡ exact_sum acc (exactly m p x q d j zeroInterval)
  unfolding exactly
  exactly_from zero j acc = sym (sum_nought acc)
  exactly_from (suc d) j acc =
      let v = exact_product (at m (p + j)) (at x (q + j)) in
      exactly_from d (j + 1) (exact_sum acc v) ∙ sum_assoc acc v _
      ∙ ap (exact_sum acc) (sym (exactly_from d (j + 1) (exact_sum zeroInterval v) ∙ rw (nought_sum v)))

  -- one part after the other
  pub exactly_parts : (d e j : ℕ) (acc : Interval) → exactly m p x q (d + e) j acc ≡ exactly m p x q e (j + d) (exactly m p x q d j acc)
  unfolding exactly
  exactly_parts zero e j acc = let f : j + 0 ≡ j = omega arith in rw (zero-add e, f)
  exactly_parts (suc d) e j acc =
      let f : suc d + e ≡ suc (d + e) = omega arith in
      let g : j + suc d ≡ j + 1 + d = omega arith in
      rw (f, g) (exactly_parts d e (j + 1) _)

  -- counted from a later place
  pub exactly_shift : (k d j : ℕ) (acc : Interval) → exactly m (p + k) x (q + k) d j acc ≡ exactly m p x q d (k + j) acc
  unfolding exactly
  exactly_shift k zero j acc = refl
  exactly_shift k (suc d) j acc =
      let f : p + k + j ≡ p + (k + j) = omega arith in
      let g : q + k + j ≡ q + (k + j) = omega arith in
      let h : k + (j + 1) ≡ k + j + 1 = omega arith in
      rw (f, g) (exactly_shift k d (j + 1) _ ∙ rw h)

  pub exactly_later : (d e : ℕ) (acc : Interval) → exactly m p x q (d + e) 0 acc ≡ exactly m (p + d) x (q + d) e 0 (exactly m p x q d 0 acc)
  exactly_later d e acc =
      let f : 0 + d ≡ d + 0 = omega arith in
      exactly_parts d e 0 acc ∙ ap (λ (j : ℕ). exactly m p x q e j (exactly m p x q d 0 acc)) f ∙ sym (exactly_shift d e 0 _)
