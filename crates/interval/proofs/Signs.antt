-- The least and the greatest of the four end products by the signs of the ends: one of them each, or the least and the greatest of two where the left operand lies across 0.
use mathlib.Core.Path.{◌≡◌, ap₂, ◌∙◌}
use lib.IntN.{pos, ◌*ℤ◌}
use lib.Signed.{◌≤ℤ◌}
use Rattle.integer.specs.Extremes.{minimum, maximum}
use Rattle.integer.proofs.Order.{trans, mono, mono_left, anti, anti_left}
use Rattle.integer.proofs.Extremes.{min_is_left, min_is_right, max_is_left, max_is_right}
use Rattle.interval.specs.declared.Interval.{Interval}
use Rattle.interval.specs.Interval.{least_product, greatest_product}
use Rattle.interval.proofs.Range.{Sound}

module _ {x y : Interval} (v : Sound x) (w : Sound y) where
  -- the left operand is not below 0: the lower end of the right one counts for the least, the upper for the greatest
  module _ (h : pos 0 ≤ℤ x.lo) where
    above_least : least_product x y ≡ minimum (x.lo *ℤ y.lo) (x.hi *ℤ y.lo)
    above_least = ap₂ minimum (min_is_left (mono_left x.lo _ _ h w.order)) (min_is_left (mono_left x.hi _ _ (trans h v.order) w.order))

    pub above_least_above : pos 0 ≤ℤ y.lo → least_product x y ≡ x.lo *ℤ y.lo
    above_least_above k = above_least ∙ min_is_left (mono _ _ y.lo k v.order)

    pub above_least_below : y.lo ≤ℤ pos 0 → least_product x y ≡ x.hi *ℤ y.lo
    above_least_below k = above_least ∙ min_is_right (anti _ _ y.lo k v.order)

    pub above_greatest : greatest_product x y ≡ maximum (x.lo *ℤ y.hi) (x.hi *ℤ y.hi)
    above_greatest = ap₂ maximum (max_is_right (mono_left x.lo _ _ h w.order)) (max_is_right (mono_left x.hi _ _ (trans h v.order) w.order))

    pub above_greatest_above : pos 0 ≤ℤ y.hi → greatest_product x y ≡ x.hi *ℤ y.hi
    above_greatest_above k = above_greatest ∙ max_is_right (mono _ _ y.hi k v.order)

  -- the left operand is not above 0: the other way round
  module _ (h : x.hi ≤ℤ pos 0) where
    below_least : least_product x y ≡ minimum (x.lo *ℤ y.hi) (x.hi *ℤ y.hi)
    below_least = ap₂ minimum (min_is_right (anti_left x.lo _ _ (trans v.order h) w.order)) (min_is_right (anti_left x.hi _ _ h w.order))

    pub below_least_above : pos 0 ≤ℤ y.hi → least_product x y ≡ x.lo *ℤ y.hi
    below_least_above k = below_least ∙ min_is_left (mono _ _ y.hi k v.order)

    pub below_least_below : y.hi ≤ℤ pos 0 → least_product x y ≡ x.hi *ℤ y.hi
    below_least_below k = below_least ∙ min_is_right (anti _ _ y.hi k v.order)

    pub below_greatest : greatest_product x y ≡ maximum (x.lo *ℤ y.lo) (x.hi *ℤ y.lo)
    below_greatest = ap₂ maximum (max_is_left (anti_left x.lo _ _ (trans v.order h) w.order)) (max_is_left (anti_left x.hi _ _ h w.order))

    pub below_greatest_below : y.lo ≤ℤ pos 0 → greatest_product x y ≡ x.lo *ℤ y.lo
    below_greatest_below k = below_greatest ∙ max_is_left (anti _ _ y.lo k v.order)

  -- the left operand lies across 0
  module _ (h : x.lo ≤ℤ pos 0) (k : pos 0 ≤ℤ x.hi) where
    pub across_least : least_product x y ≡ minimum (x.lo *ℤ y.hi) (x.hi *ℤ y.lo)
    across_least = ap₂ minimum (min_is_right (anti_left x.lo _ _ h w.order)) (min_is_left (mono_left x.hi _ _ k w.order))

    pub across_greatest : greatest_product x y ≡ maximum (x.lo *ℤ y.lo) (x.hi *ℤ y.hi)
    across_greatest = ap₂ maximum (max_is_left (anti_left x.lo _ _ h w.order)) (max_is_right (mono_left x.hi _ _ k w.order))
