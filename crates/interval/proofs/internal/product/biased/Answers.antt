use mir.Syntax.{w64}
use mir.ValLaws.{to_z-of_z}
use Rattle.interval.specs.Interval.{scale}
use Rattle.interval.proofs.Scaled.{biased_add, biased_cast, biased_part, biased_less, biased_read}
use Rattle.interval.proofs.internal.product.biased.Goals as goal

pub overflow_add-n : goal.overflow_add-n
overflow_add-n c = rw (to_z-of_z w64 _ c.ranges.bias) (biased_add _ _ c.ranges.p c.requires.p_bound c.requires.bias_bound.0 c.requires.bias_bound.1)

pub overflow_cast-n : goal.overflow_cast-n
overflow_cast-n c = rw (to_z-of_z w64 _ c.ranges.bias) (biased_cast _ _ c.ranges.p c.requires.p_bound c.requires.bias_bound.0 c.requires.bias_bound.1)

pub overflow_cast-q : goal.overflow_cast-q
overflow_cast-q c = rw (to_z-of_z w64 _ c.ranges.bias) (biased_part _ _ c.ranges.p c.requires.p_bound c.requires.bias_bound.0 c.requires.bias_bound.1)

pub overflow_sub-result : goal.overflow_sub-result
overflow_sub-result c = rw (to_z-of_z w64 _ c.ranges.bias) (biased_less _ _ c.ranges.p c.requires.p_bound c.requires.bias_bound.0 c.requires.bias_bound.1)

pub returns : goal.returns
unfolding scale
returns c = rw (to_z-of_z w64 _ c.ranges.bias) (biased_read _ _ c.ranges.p c.requires.p_bound c.requires.bias_bound.0 c.requires.bias_bound.1)
