-- The test and the greatest of several sums: one turn of the loop, and what they say of each sum.
use mathlib.Core.Path.{◌≡◌, sym, ◌∙◌}
use mathlib.Core.Bool.{true}
use Prim.Native.Nat.{ℕ, zero, suc, ◌+◌, ◌-◌, ◌≤◌, ◌<◌}
use native.Mathlib.Omega.{arith}
use lib.IntN.{ℤ}
use lib.Signed.{◌≤ℤ◌, ◌<ℤ◌, ≤ℤ_refl}
use Rattle.integer.specs.Extremes.{maximum}
use Rattle.integer.proofs.Order.{taken, trans}
use Rattle.integer.proofs.Extremes.{max_ind, le_max_left, le_max_right}
use Rattle.integer.proofs.Total.{first_or_later}
use Rattle.interval.specs.Interval.{scale}
use Rattle.start_box.proofs.Every.{every_each, below_every}
use Rattle.start_box.specs.Sums.{all_below_one, greatest}

module _ (f : ℕ → ℤ) where
  -- ---- one turn; the sums left are n − i
  module _ (n i : ℕ) where
    pub greatest_end : (first : ℤ) → n ≤ i → greatest f (n - i) i first ≡ first
    unfolding greatest
    greatest_end first h = let e : n - i ≡ 0 = omega arith in rw e

    pub greatest_go : (first : ℤ) → i < n → greatest f (n - i) i first ≡ greatest f (n - (i + 1)) (i + 1) (maximum first (f i))
    unfolding greatest
    greatest_go first h = let e : n - i ≡ suc (n - (i + 1)) = omega arith in rw e

  -- ---- where the test passes, each sum is below one, and so is the greatest
  pub below_each : (d i : ℕ) → all_below_one f d i ≡ true → (l : ℕ) → i ≤ l → l < i + d → f l <ℤ scale
  below_each d i e l a b = taken (f l) scale (every_each _ d i (sym (below_every f d i) ∙ e) l a b)

  -- what holds of the first number and of each other holds of the greatest
  pub greatest_ind : (P : ℤ → Type 0) (d i : ℕ) (first : ℤ) → P first → ((l : ℕ) → i ≤ l → l < i + d → P (f l)) → P (greatest f d i first)
  unfolding greatest
  greatest_ind P zero i first p h = p
  greatest_ind P (suc d) i first p h =
      greatest_ind P d (i + 1) (maximum first (f i)) (max_ind first (f i) P (λ e. h i (omega arith) (omega arith)) (λ e. p)) (λ l a b. h l (omega arith) (omega arith))

  pub greatest_below : (d i : ℕ) (first : ℤ) → all_below_one f d i ≡ true → first <ℤ scale → greatest f d i first <ℤ scale
  greatest_below d i first e h = greatest_ind (λ z. z <ℤ scale) d i first h (below_each d i e)

  -- none is above it
  pub greatest_first : (d i : ℕ) (first : ℤ) → first ≤ℤ greatest f d i first
  unfolding greatest
  greatest_first zero i first = ≤ℤ_refl first
  greatest_first (suc d) i first = trans (le_max_left first (f i)) (greatest_first d (i + 1) (maximum first (f i)))

  pub greatest_each : (d i : ℕ) (first : ℤ) (l : ℕ) → i ≤ l → l < i + d → f l ≤ℤ greatest f d i first
  unfolding greatest
  greatest_each zero i first l a b = absurd (omega arith)
  greatest_each (suc d) i first l a b =
      let m = maximum first (f i) in
      first_or_later (λ k. f k ≤ℤ greatest f d (i + 1) m) i l a (trans (le_max_right first (f i)) (greatest_first d (i + 1) m)) (λ c. greatest_each d (i + 1) m l c (omega arith))
