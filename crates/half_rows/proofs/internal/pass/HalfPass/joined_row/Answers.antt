use mathlib.Core.Path.{ap, ap₂, ◌∙◌}
use Rattle.interval.specs.Interval.{exact_sum, rounded, scale, intersection}
use Rattle.wide_sum.specs.Wide.{held_both}
use Rattle.half_rows.proofs.Fits.{component_fits}
use Rattle.half_rows.proofs.internal.pass.HalfPass.joined_row.Goals as goal

pub sum-requires : goal.sum-requires
sum-requires c =
    component_fits c.read-b.ensures (c.args.self.right_sound.each _) c.rounded_any-t.ensures.1 c.rounded_any-t.ensures.2

pub returns : goal.returns
returns c =
    c.intersection.ensures
    ∙ ap₂ intersection
    (c.sum.ensures ∙ ap₂ exact_sum c.read-b.ensures (c.rounded_any-t.ensures.0 ∙ ap (rounded scale) (c.joined.ensures.is ∙ ap (exact_sum (held_both c.args.known)) c.read_sum-k.ensures.0)))
    c.read-old.ensures
