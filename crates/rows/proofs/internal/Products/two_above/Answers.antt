use mathlib.Core.Path.{ap₂, ◌∙◌}
use Rattle.interval.specs.Interval.{exact_sum}
use Rattle.rows.proofs.Next.{two_summed, pair_fits, pair_above}
use Rattle.rows.proofs.internal.Products.two_above.Goals as goal

pub sum-requires : goal.sum-requires
sum-requires c =
    pair_fits _ _ _ _ _ c.args.self.sound.0 c.args.self.sound.1 (ap₂ exact_sum c.product_above-u.ensures c.product_above-v.ensures)

pub raised-requires-clause-pos_bound : goal.raised-requires-clause-pos_bound
raised-requires-clause-pos_bound c =
    let e = c.sum.ensures ∙ ap₂ exact_sum c.product_above-u.ensures c.product_above-v.ensures in
    pair_above _ _ _ _ _ c.args.self.sound.0 c.args.self.sound.1 e c.requires.above.0 c.requires.above.1

pub returns : goal.returns
returns c =
    two_summed _ _ _ _ _ (c.sum.ensures ∙ ap₂ exact_sum c.product_above-u.ensures c.product_above-v.ensures) c.raised.ensures
