use Rattle.rows.proofs.Next.{one_summed}
use Rattle.rows.proofs.internal.Products.next_one.Goals as goal

pub returns : goal.returns
returns c = one_summed _ _ _ _ _ c.product-u.ensures c.added.ensures
