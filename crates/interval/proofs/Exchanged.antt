-- The operands of a product exchanged.
use mathlib.Core.Path.{◌≡◌}
use lib.IntN.{ℤ, *ℤ_comm}
use lib.Signed.{◌≤ℤ◌}
use Rattle.integer.proofs.Order.{antisym}
use Rattle.interval.specs.declared.Interval.{Interval}
use Rattle.interval.specs.Interval.{least, greatest, least_product, greatest_product, exact_product}
use Rattle.interval.proofs.Corners.{least_ind, greatest_ind, least_first, least_second, least_third, least_fourth, greatest_first, greatest_second, greatest_third, greatest_fourth}
use Rattle.interval.proofs.Range.{same_ends}

least_swap : (a b c d : ℤ) → least a b c d ≡ least a c b d
least_swap a b c d = antisym _ _ (half a b c d) (half a c b d)
  where
    half : (a b c d : ℤ) → least a b c d ≤ℤ least a c b d
    half a b c d = least_ind a c b d (λ z. least a b c d ≤ℤ z) (least_first a b c d) (least_third a b c d) (least_second a b c d) (least_fourth a b c d)

greatest_swap : (a b c d : ℤ) → greatest a b c d ≡ greatest a c b d
greatest_swap a b c d = antisym _ _ (half a b c d) (half a c b d)
  where
    half : (a b c d : ℤ) → greatest a b c d ≤ℤ greatest a c b d
    half a b c d = greatest_ind a b c d (λ z. z ≤ℤ greatest a c b d) (greatest_first a c b d) (greatest_third a c b d) (greatest_second a c b d) (greatest_fourth a c b d)

least_exchanged : (x y : Interval) → least_product y x ≡ least_product x y
least_exchanged x y =
    rw (*ℤ_comm y.lo x.lo, *ℤ_comm y.lo x.hi, *ℤ_comm y.hi x.lo, *ℤ_comm y.hi x.hi) (least_swap _ _ _ _)

greatest_exchanged : (x y : Interval) → greatest_product y x ≡ greatest_product x y
greatest_exchanged x y =
    rw (*ℤ_comm y.lo x.lo, *ℤ_comm y.lo x.hi, *ℤ_comm y.hi x.lo, *ℤ_comm y.hi x.hi) (greatest_swap _ _ _ _)

pub exchanged : (x y : Interval) → exact_product y x ≡ exact_product x y
unfolding exact_product
exchanged x y = same_ends _ _ (least_exchanged x y) (greatest_exchanged x y)
