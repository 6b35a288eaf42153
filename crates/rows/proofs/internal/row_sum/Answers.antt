use mathlib.Core.Path.{ap, ◌∙◌}
use native.Mathlib.Omega.{arith}
use Rattle.interval.specs.Interval.{scale, rounded}
use Rattle.wide_sum.proofs.Near.{near_both_more}
use Rattle.rows.specs.Sum.{exactly, once}
use Rattle.rows.proofs.internal.row_sum.Goals as goal

pub added_to-requires : goal.added_to-requires
added_to-requires c = near_both_more (omega arith) c.nought.ensures.1

pub rounded-requires : goal.rounded-requires
rounded-requires c = near_both_more (omega (arith, c.requires.d_in_bounds.2)) (c.added_to.ensures.near 0 c.nought.ensures.1)

pub returns : goal.returns
unfolding once
returns c =
    let s = c.args in
    c.rounded.ensures.0 ∙ ap (rounded scale) (c.added_to.ensures.is ∙ ap (exactly s.m.now s.p s.x.now s.q s.d 0) c.nought.ensures.0)
