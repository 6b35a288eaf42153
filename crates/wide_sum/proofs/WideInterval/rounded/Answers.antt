use Rattle.integer.proofs.Machine.{plain}
use Rattle.interval.specs.Interval.{scale, rounded}
use Rattle.wide_sum.specs.Wide.{held_both}
use Rattle.wide_sum.proofs.Parts.{floor_safe, floor_read, ceil_safe, ceil_read}
use Rattle.wide_sum.proofs.WideInterval.rounded.Goals as goal

pub overflow_add-result : goal.overflow_add-result
unfolding scale
overflow_add-result c = floor_safe c.parted-lo.ensures (plain _ c.floor_div.type_inv) c.floor_div.ensures

pub overflow_add-result-2 : goal.overflow_add-result-2
unfolding scale
overflow_add-result-2 c = ceil_safe c.parted-hi.ensures (plain _ c.ceil_div.type_inv) c.ceil_div.ensures

pub returns : goal.returns
unfolding scale rounded held_both
returns c =
    let f = floor_read c.parted-lo.ensures (plain _ c.floor_div.type_inv) c.floor_div.ensures in
    let g = ceil_read c.parted-hi.ensures (plain _ c.ceil_div.type_inv) c.ceil_div.ensures in
    (λ i. record { lo = f.0 i; hi = g.0 i }, f.1, g.1)
