-- Minimum and maximum: below both and above both, and no less or more than that; what a test of the code says of them.
use mathlib.Core.Path.{◌≡◌, refl, sym, subst}
use mathlib.Core.Logic.{⊎_elim}
use lib.IntN.{ℤ, neg_ℤ}
use Rattle.std.specs.Int.{int_min, int_max}
use lib.Signed.{◌≤ℤ◌, ◌<ℤ◌, ≤ℤ_refl}
use Rattle.integer.specs.Extremes.{minimum, maximum}
use Rattle.integer.proofs.Order.{turn_le, antisym, lt_or_ge, lt_le, yes_lt, no_lt}

module _ (a b : ℤ) where
  -- what the library's methods answer
  pub min_is : int_min a b ≡ minimum a b
  unfolding minimum
  min_is = refl

  pub max_is : int_max a b ≡ maximum a b
  unfolding maximum
  max_is = refl

  -- what holds of each of the two holds of the one chosen
  pub min_ind : (P : ℤ → Type 0) → (b <ℤ a → P b) → (a ≤ℤ b → P a) → P (minimum a b)
  unfolding minimum
  min_ind P f g = ⊎_elim (λ (e : b <ℤ a). rw (yes_lt b a e) (f e)) (λ (e : a ≤ℤ b). rw (no_lt b a e) (g e)) (lt_or_ge b a)

  pub max_ind : (P : ℤ → Type 0) → (a <ℤ b → P b) → (b ≤ℤ a → P a) → P (maximum a b)
  unfolding maximum
  max_ind P f g = ⊎_elim (λ (e : b <ℤ a). rw (yes_lt b a e) (g (lt_le e))) (λ (e : a ≤ℤ b). rw (no_lt b a e) (high e)) (lt_or_ge b a)
    where
      high : a ≤ℤ b → P b
      high e = ⊎_elim f (λ (k : b ≤ℤ a). subst P (antisym a b e k) (g k)) (lt_or_ge a b)

  pub min_le_left : minimum a b ≤ℤ a
  min_le_left = min_ind (λ m. m ≤ℤ a) (λ e. lt_le e) (λ e. ≤ℤ_refl a)

  pub min_le_right : minimum a b ≤ℤ b
  min_le_right = min_ind (λ m. m ≤ℤ b) (λ e. ≤ℤ_refl b) (λ e. e)

  pub le_max_left : a ≤ℤ maximum a b
  le_max_left = max_ind (λ m. a ≤ℤ m) (λ e. lt_le e) (λ e. ≤ℤ_refl a)

  pub le_max_right : b ≤ℤ maximum a b
  le_max_right = max_ind (λ m. b ≤ℤ m) (λ e. ≤ℤ_refl b) (λ e. e)

  pub le_min : (c : ℤ) → c ≤ℤ a → c ≤ℤ b → c ≤ℤ minimum a b
  le_min c h k = min_ind (λ m. c ≤ℤ m) (λ e. k) (λ e. h)

  pub max_le : (c : ℤ) → a ≤ℤ c → b ≤ℤ c → maximum a b ≤ℤ c
  max_le c h k = max_ind (λ m. m ≤ℤ c) (λ e. k) (λ e. h)

module _ {a b : ℤ} where
  pub min_is_left : a ≤ℤ b → minimum a b ≡ a
  min_is_left h = antisym _ _ (min_le_left a b) (le_min a b a (≤ℤ_refl a) h)

  pub min_is_right : b ≤ℤ a → minimum a b ≡ b
  min_is_right h = antisym _ _ (min_le_right a b) (le_min a b b h (≤ℤ_refl b))

  pub max_is_left : b ≤ℤ a → maximum a b ≡ a
  max_is_left h = antisym _ _ (max_le a b a (≤ℤ_refl a) h) (le_max_left a b)

  pub max_is_right : a ≤ℤ b → maximum a b ≡ b
  max_is_right h = antisym _ _ (max_le a b b h (≤ℤ_refl b)) (le_max_right a b)

pub min_comm : (a b : ℤ) → minimum a b ≡ minimum b a
min_comm a b = antisym _ _ (le_min b a _ (min_le_right a b) (min_le_left a b)) (le_min a b _ (min_le_right b a) (min_le_left b a))

pub neg_max : (a b : ℤ) → neg_ℤ (maximum a b) ≡ minimum (neg_ℤ a) (neg_ℤ b)
neg_max a b = max_ind a b (λ m. neg_ℤ m ≡ minimum (neg_ℤ a) (neg_ℤ b)) (λ e. sym (min_is_right (turn_le (lt_le e)))) (λ e. sym (min_is_left (turn_le e)))

pub max_comm : (a b : ℤ) → maximum a b ≡ maximum b a
max_comm a b = antisym _ _ (max_le a b _ (le_max_right b a) (le_max_left b a)) (max_le b a _ (le_max_right a b) (le_max_left a b))
