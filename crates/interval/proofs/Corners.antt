-- The least and the greatest of four, as the product and the quotient of two intervals take them.
use mathlib.Core.Path.{◌≡◌, ap₂, ◌∙◌}
use lib.IntN.{ℤ, neg_ℤ}
use lib.Signed.{◌≤ℤ◌}
use Rattle.integer.specs.Extremes.{minimum, maximum}
use Rattle.integer.proofs.Order.{trans}
use Rattle.integer.proofs.Extremes.{min_ind, max_ind, min_le_left, min_le_right, le_max_left, le_max_right, min_comm, max_comm, neg_max}
use Rattle.interval.specs.Interval.{least, greatest}

module _ (a b c d : ℤ) where
  pub least_ind : (P : ℤ → Type 0) → P a → P b → P c → P d → P (least a b c d)
  least_ind P p q r t = min_ind (minimum a b) (minimum c d) P (λ e. min_ind c d P (λ e. t) (λ e. r)) (λ e. min_ind a b P (λ e. q) (λ e. p))

  pub greatest_ind : (P : ℤ → Type 0) → P a → P b → P c → P d → P (greatest a b c d)
  greatest_ind P p q r t = max_ind (maximum a b) (maximum c d) P (λ e. max_ind c d P (λ e. t) (λ e. r)) (λ e. max_ind a b P (λ e. q) (λ e. p))

  pub least_first : least a b c d ≤ℤ a
  least_first = trans (min_le_left _ _) (min_le_left a b)

  pub least_second : least a b c d ≤ℤ b
  least_second = trans (min_le_left _ _) (min_le_right a b)

  pub least_third : least a b c d ≤ℤ c
  least_third = trans (min_le_right _ _) (min_le_left c d)

  pub least_fourth : least a b c d ≤ℤ d
  least_fourth = trans (min_le_right _ _) (min_le_right c d)

  pub greatest_first : a ≤ℤ greatest a b c d
  greatest_first = trans (le_max_left a b) (le_max_left _ _)

  pub greatest_second : b ≤ℤ greatest a b c d
  greatest_second = trans (le_max_right a b) (le_max_left _ _)

  pub greatest_third : c ≤ℤ greatest a b c d
  greatest_third = trans (le_max_left c d) (le_max_right _ _)

  pub greatest_fourth : d ≤ℤ greatest a b c d
  greatest_fourth = trans (le_max_right c d) (le_max_right _ _)

  -- in the opposite sequence
  pub least_back : least a b c d ≡ least d c b a
  least_back = min_comm _ _ ∙ ap₂ minimum (min_comm c d) (min_comm a b)

  pub greatest_back : greatest a b c d ≡ greatest d c b a
  greatest_back = max_comm _ _ ∙ ap₂ maximum (max_comm c d) (max_comm a b)

  -- in the sequence that the ends have once the left operand has changed its sign
  pub neg_greatest : neg_ℤ (greatest a b c d) ≡ least (neg_ℤ c) (neg_ℤ d) (neg_ℤ a) (neg_ℤ b)
  neg_greatest = neg_max (maximum a b) (maximum c d) ∙ ap₂ minimum (neg_max a b) (neg_max c d) ∙ min_comm _ _
