-- The example of a new 7, by computation.
use mathlib.Core.Path.{refl}
use Rattle.integer.specs.Rounding.{floor_div, ceil_div}
use Rattle.integer.specs.Extremes.{minimum, maximum}
use Rattle.outcome.specs.Run.{ended}
use Rattle.interval.specs.Interval.{scale, lowest, highest, within, in_range, acceptable, exact_sum, intersection, is_empty, exact_product, rounded, product_at}
use Rattle.inputs.specs.Place.{at, put}
use Rattle.inputs.specs.Tests.{both, need, sized, lengths, sizes, proper, all_proper, tested}
use Rattle.rows.specs.Sum.{exactly, once, summed, singly}
use Rattle.sweep.specs.Pass.{component, along, up, sweep, differs, differ}
use Rattle.sweep.specs.Call.{sweeps, allowance, tests}
use Rattle.sweep.specs.Calls.{run_by, returned_by}
use Rattle.inside_former.specs.Example.{SevenCanBeNew}

pub seven_can_be_new : SevenCanBeNew
unfolding floor_div ceil_div minimum maximum ended scale lowest highest within in_range acceptable exact_sum intersection is_empty exact_product rounded product_at at put both need sized lengths sizes proper all_proper tested exactly once summed singly component along up sweep differs differ sweeps allowance tests run_by returned_by
seven_can_be_new = record { before = refl; now = refl }
