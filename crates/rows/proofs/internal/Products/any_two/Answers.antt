use mathlib.Core.Path.{ap₂, ◌∙◌}
use Rattle.interval.specs.Interval.{exact_sum}
use Rattle.rows.proofs.Next.{two_summed, pair_fits}
use Rattle.rows.proofs.internal.Products.any_two.Goals as goal

pub sum-requires : goal.sum-requires
sum-requires c =
    pair_fits _ _ _ _ _ c.args.self.sound.0 c.args.self.sound.1 (ap₂ exact_sum c.product-u.ensures c.product-v.ensures)

pub returns : goal.returns
returns c =
    two_summed _ _ _ _ _ (c.sum.ensures ∙ ap₂ exact_sum c.product-u.ensures c.product-v.ensures) c.added.ensures
