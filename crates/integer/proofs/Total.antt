-- Sums by their index: one term more, term by term, in two ways over a square; how large a sum is.
use mathlib.Core.Path.{◌≡◌, refl, sym, ap, ◌∙◌}
use Prim.Native.Nat.{ℕ, zero, suc, ◌+◌, ◌*◌, ◌≤◌, ◌<◌}
use native.Mathlib.Omega.{arith}
use native.Mathlib.Nat.{zero-add}
use native.Mathlib.Decide.{ℕ_discrete}
use lib.IntN.{ℤ, pos, ◌+ℤ◌, ◌*ℤ◌, +ℤ_assoc, +ℤ_idr, +ℤ_idl}
use lib.Signed.{◌≤ℤ◌, ≤ℤ_refl}
use Rattle.integer.specs.Total.{total}
use Rattle.integer.proofs.Difference.{differences}
use Rattle.integer.proofs.Linear.{linear, over}
use Rattle.integer.proofs.Order.{trans}

-- the last term apart
total_last : (f : ℕ → ℤ) (d j : ℕ) → total f (suc d) j ≡ total f d j +ℤ f (j + d)
unfolding total
total_last f zero j = let e : j + 0 ≡ j = omega arith in rw e (+ℤ_idr (f j) ∙ sym (+ℤ_idl (f j)))
total_last f (suc d) j =
    let e : j + suc d ≡ j + 1 + d = omega arith in
    rw e (ap (λ z. f j +ℤ z) (total_last f d (j + 1)) ∙ sym (+ℤ_assoc (f j) (total f d (j + 1)) (f (j + 1 + d))))

-- one turn of a loop that has summed the first i terms
pub total_more : (f : ℕ → ℤ) (i : ℕ) → total f i 0 +ℤ f i ≡ total f (i + 1) 0
total_more f i = let e : i + 1 ≡ suc i = omega arith in rw e (sym (total_last f i 0 ∙ ap (λ k. total f i 0 +ℤ f k) (zero-add i)))

-- ---- term by term
pub total_mono : (f g : ℕ → ℤ) (d j : ℕ) → ((l : ℕ) → j ≤ l → l < j + d → f l ≤ℤ g l) → total f d j ≤ℤ total g d j
unfolding total
total_mono f g zero j h = ≤ℤ_refl _
total_mono f g (suc d) j h = go (f j) (g j) _ _ (h j (omega arith) (omega arith)) (total_mono f g d (j + 1) (λ l a b. h l (omega arith) (omega arith)))
  where
    go : (a b c e : ℤ) → a ≤ℤ b → c ≤ℤ e → (a +ℤ c) ≤ℤ (b +ℤ e)
    go = over 4 _ (λ ρ. simp linear (omega arith))

pub total_add : (f g : ℕ → ℤ) (d j : ℕ) → total (λ l. f l +ℤ g l) d j ≡ total f d j +ℤ total g d j
unfolding total
total_add f g zero j = refl
total_add f g (suc d) j = ap (λ z. (f j +ℤ g j) +ℤ z) (total_add f g d (j + 1)) ∙ go (f j) (g j) (total f d (j + 1)) (total g d (j + 1))
  where
    go : (a b c e : ℤ) → (a +ℤ b) +ℤ (c +ℤ e) ≡ (a +ℤ c) +ℤ (b +ℤ e)
    go = over 4 _ (λ ρ. simp linear (omega arith))

pub total_factor : (k : ℤ) (f : ℕ → ℤ) (d j : ℕ) → total (λ l. f l *ℤ k) d j ≡ total f d j *ℤ k
unfolding total
total_factor k f zero j = none k
  where
    none : (k : ℤ) → pos 0 ≡ pos 0 *ℤ k
    none = over 1 _ (λ ρ. simp (linear, ρ) (omega arith))
total_factor k f (suc d) j = ap (λ z. f j *ℤ k +ℤ z) (total_factor k f d (j + 1)) ∙ go (f j) (total f d (j + 1)) k
  where
    go : (a b k : ℤ) → a *ℤ k +ℤ b *ℤ k ≡ (a +ℤ b) *ℤ k
    go = over 3 _ (λ ρ. simp linear (omega arith))

-- ---- over a square: row by row, or column by column
total_noughts : (d j : ℕ) → total (λ l. pos 0) d j ≡ pos 0
unfolding total
total_noughts zero j = refl
total_noughts (suc d) j = rw (total_noughts d (j + 1))

pub total_swap : (f : ℕ → ℕ → ℤ) (n i m j : ℕ) → total (λ k. total (f k) m j) n i ≡ total (λ l. total (λ k. f k l) n i) m j
unfolding total
total_swap f zero i m j = sym (total_noughts m j)
total_swap f (suc n) i m j = ap (λ z. total (f i) m j +ℤ z) (total_swap f n (i + 1) m j) ∙ sym (total_add (f i) (λ l. total (λ k. f k l) n (i + 1)) m j)

-- ---- how large
pub total_above : (f : ℕ → ℤ) (d j : ℕ) → ((l : ℕ) → j ≤ l → l < j + d → pos 0 ≤ℤ f l) → pos 0 ≤ℤ total f d j
total_above f d j h = rw (total_noughts d j) at (total_mono (λ l. pos 0) f d j h)

total_same : (k d j : ℕ) → total (λ l. pos k) d j ≡ pos (k * d)
unfolding total
total_same k zero j = let e : k * 0 ≡ 0 = omega arith in rw e
total_same k (suc d) j = rw (total_same k d (j + 1)) (simp differences (omega arith))

pub total_at_most : (f : ℕ → ℤ) (k d j : ℕ) → ((l : ℕ) → j ≤ l → l < j + d → f l ≤ℤ pos k) → total f d j ≤ℤ pos (k * d)
total_at_most f k d j h = rw (total_same k d j) at (total_mono f (λ l. pos k) d j h)

-- of i, i + 1, ..: the first, or one of the others
pub first_or_later : (P : ℕ → Type 0) (i l : ℕ) → i ≤ l → P i → (i + 1 ≤ l → P l) → P l
first_or_later P i l h first later = go (ℕ_discrete l i)
  where
    go : Dec (l ≡ i) → P l
    go (yes e) = rw e first
    go (no e) = later (omega (arith, e))

-- one term is at most the sum of terms that are not negative
pub total_term : (f : ℕ → ℤ) (d i : ℕ) → ((l : ℕ) → i ≤ l → l < i + d → pos 0 ≤ℤ f l) → (j : ℕ) → i ≤ j → j < i + d → f j ≤ℤ total f d i
unfolding total
total_term f zero i h j a b = absurd (omega arith)
total_term f (suc d) i h j a b =
    first_or_later (λ k. f k ≤ℤ (f i +ℤ total f d (i + 1))) i j a
    (first (f i) _ (total_above f d (i + 1) (λ l u v. h l (omega arith) (omega arith))))
    (λ c. trans (total_term f d (i + 1) (λ l u v. h l (omega arith) (omega arith)) j c (omega arith)) (other (f i) _ (h i (omega arith) (omega arith))))
  where
    first : (a b : ℤ) → pos 0 ≤ℤ b → a ≤ℤ (a +ℤ b)
    first = over 2 _ (λ ρ. simp (linear, ρ) (omega arith))

    other : (a b : ℤ) → pos 0 ≤ℤ a → b ≤ℤ (a +ℤ b)
    other = over 2 _ (λ ρ. simp (linear, ρ) (omega arith))
