use mathlib.Core.Path.{◌∙◌}
use lib.IntN.{pos}
use mir.Syntax.{w64}
use mir.ValLaws.{to_z-of_z}
use Rattle.integer.proofs.Rounding.{floor_biased}
use Rattle.integer.proofs.Machine.{plain}
use Rattle.interval.specs.Interval.{scale}
use Rattle.interval.proofs.Range.{scale_above}
use Rattle.interval.proofs.internal.product.scaled_down.Goals as goal

pub biased-requires-clause-p_bound : goal.biased-requires-clause-p_bound
biased-requires-clause-p_bound c = rw (to_z-of_z w64 _ c.ranges.p) (c.requires.negsuc_bound, c.requires.p_bound)

pub returns : goal.returns
unfolding scale
returns c =
    plain _ c.biased.type_inv ∙ rw (to_z-of_z w64 _ c.ranges.p) at c.biased.ensures ∙ floor_biased c.args.p (pos 1000000) (pos 4000000000000) scale_above
