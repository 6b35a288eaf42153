-- Numbers that are not negative, each at most what a matrix of small sums makes of all of them and a part of its own: they are within the
-- reach.
use Prim.Native.Nat.{ℕ, ◌<◌}
use native.Mathlib.Omega.{arith}
use lib.IntN.{ℤ, pos, ◌+ℤ◌, ◌-ℤ◌, ◌*ℤ◌, *ℤ_comm}
use lib.Signed.{◌≤ℤ◌, ◌<ℤ◌, ≤ℤ_refl}
use Rattle.integer.specs.Total.{total}
use Rattle.integer.proofs.Linear.{linear, over}
use Rattle.integer.proofs.Order.{also, prod, trans, lt_le, mono, mono_left, cancel}
use Rattle.integer.proofs.Total.{total_mono, total_add, total_factor, total_swap, total_term}
use Rattle.interval.specs.Interval.{scale}
use Rattle.interval.proofs.Range.{scale_above}
use Rattle.start_box.specs.Sums.{Entries, row_sum, column_sum, greatest}
use Rattle.start_box.proofs.Sums.{greatest_ind, greatest_each}
use Rattle.start_box.proofs.Reach.{gap_above}

-- r is a reach of M and c: at least each c(i) divided by one minus the sum of row i, or the sum of all c(i) by one minus some C that no
-- column sum is above
pub data Reach (n : ℕ) (M : Entries) (c : ℕ → ℤ) (r : ℤ) : Type 0 where
  by_rows : pos 0 ≤ℤ r → ((i : ℕ) → i < n → row_sum M n i <ℤ scale) → ((i : ℕ) → i < n → (c i *ℤ scale) ≤ℤ (r *ℤ (scale -ℤ row_sum M n i))) → Reach n M c r
  by_columns : (C : ℤ) → C <ℤ scale → ((j : ℕ) → j < n → column_sum M n j ≤ℤ C) → (total c n 0 *ℤ scale) ≤ℤ (r *ℤ (scale -ℤ C)) → Reach n M c r

-- y is at most a part t of itself and g·q, and r is at least g divided by one minus t
within : (t y g q r : ℤ) → t <ℤ scale → pos 0 ≤ℤ q → (y *ℤ scale) ≤ℤ (t *ℤ y +ℤ g *ℤ (scale *ℤ q)) → (g *ℤ scale) ≤ℤ (r *ℤ (scale -ℤ t)) → y ≤ℤ (r *ℤ q)
within t y g q r a b h k = cancel y (r *ℤ q) (scale -ℤ t) (gap_above a) (move scale t y g q r b h k)
  where
    move : (s t y g q r : ℤ) → pos 0 ≤ℤ q → (y *ℤ s) ≤ℤ (t *ℤ y +ℤ g *ℤ (s *ℤ q)) → (g *ℤ s) ≤ℤ (r *ℤ (s -ℤ t)) → (y *ℤ (s -ℤ t)) ≤ℤ ((r *ℤ q) *ℤ (s -ℤ t))
    move = over 6 _ (λ ρ b h k. also (prod k b) (also h (simp (linear, ρ) (omega arith))))

raise : (a t u g : ℤ) → a ≤ℤ (t +ℤ g) → t ≤ℤ u → a ≤ℤ (u +ℤ g)
raise = over 4 _ (λ ρ. simp linear (omega arith))

module _ (n : ℕ) (M : Entries) (c : ℕ → ℤ) (r q : ℤ) (M-above : (i j : ℕ) → i < n → j < n → pos 0 ≤ℤ M i j) (q-above : pos 0 ≤ℤ q)
    (y : ℕ → ℤ) (y-above : (j : ℕ) → j < n → pos 0 ≤ℤ y j)
    (each : (i : ℕ) → i < n → (y i *ℤ scale) ≤ℤ (total (λ j. M i j *ℤ y j) n 0 +ℤ c i *ℤ (scale *ℤ q))) where
  -- ---- by rows: the greatest is within the reach if it is at most one of those that it is the greatest of
  abbrev most : ℤ
  most = greatest y n 0 (pos 0)

  most_within : pos 0 ≤ℤ r → ((i : ℕ) → i < n → row_sum M n i <ℤ scale) → ((i : ℕ) → i < n → (c i *ℤ scale) ≤ℤ (r *ℤ (scale -ℤ row_sum M n i))) → most ≤ℤ (r *ℤ q)
  unfolding row_sum
  most_within r-above below quotients =
      greatest_ind y (λ z. most ≤ℤ z → most ≤ℤ (r *ℤ q)) n 0 (pos 0) (λ h. trans h (both r q r-above q-above)) (λ i a b. row i (omega arith)) (≤ℤ_refl most)
    where
      both : (r q : ℤ) → pos 0 ≤ℤ r → pos 0 ≤ℤ q → pos 0 ≤ℤ (r *ℤ q)
      both = over 2 _ (λ ρ h k. also (prod h k) (simp (linear, ρ) (omega arith)))

      row : (i : ℕ) → i < n → most ≤ℤ y i → most ≤ℤ (r *ℤ q)
      row i a h =
          let t = total_mono (λ j. M i j *ℤ y j) (λ j. M i j *ℤ most) n 0 (λ j k l. mono_left (M i j) (y j) most (M-above i j a (omega arith)) (greatest_each y n 0 (pos 0) j k l)) in
          within (total (M i) n 0) most (c i) q r (below i a) q-above
          (raise _ _ _ _ (trans (mono most (y i) scale (lt_le scale_above) h) (each i a)) (rw (total_factor most (M i) n 0) at t)) (quotients i a)

  -- ---- by columns: the sum of all is within the reach, so each is
  abbrev row : ℕ → ℤ
  row i = total (λ j. M i j *ℤ y j) n 0

  sum_within : (C : ℤ) → C <ℤ scale → ((j : ℕ) → j < n → column_sum M n j ≤ℤ C) → (total c n 0 *ℤ scale) ≤ℤ (r *ℤ (scale -ℤ C)) → total y n 0 ≤ℤ (r *ℤ q)
  unfolding column_sum
  sum_within C below columns quotient = within C (total y n 0) (total c n 0) q r below q-above (raise _ _ _ _ rows by_column) quotient
    where
      rows : (total y n 0 *ℤ scale) ≤ℤ (total row n 0 +ℤ total c n 0 *ℤ (scale *ℤ q))
      rows =
          rw (total_factor scale y n 0, total_add row (λ i. c i *ℤ (scale *ℤ q)) n 0, total_factor (scale *ℤ q) c n 0) at
          (total_mono (λ i. y i *ℤ scale) (λ i. row i +ℤ c i *ℤ (scale *ℤ q)) n 0 (λ i a b. each i (omega arith)))

      column : (j : ℕ) → j < n → total (λ i. M i j *ℤ y j) n 0 ≤ℤ (y j *ℤ C)
      column j h = rw (total_factor (y j) (λ i. M i j) n 0, *ℤ_comm (y j) C) (mono _ C (y j) (y-above j h) (columns j h))

      by_column : total row n 0 ≤ℤ (C *ℤ total y n 0)
      by_column =
          rw (total_swap (λ i j. M i j *ℤ y j) n 0 n 0, *ℤ_comm C (total y n 0), ← (total_factor C y n 0))
          (total_mono _ (λ j. y j *ℤ C) n 0 (λ j a b. column j (omega arith)))

  pub within_reach : Reach n M c r → (j : ℕ) → j < n → y j ≤ℤ (r *ℤ q)
  within_reach (by_rows a b k) j h = trans (greatest_each y n 0 (pos 0) j (omega arith) (omega arith)) (most_within a b k)
  within_reach (by_columns C a b k) j h = trans (total_term y n 0 (λ l u v. y-above l (omega arith)) j (omega arith) (omega arith)) (sum_within C a b k)
