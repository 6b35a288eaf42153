use Rattle.rows.proofs.Next.{turned}
use Rattle.rows.proofs.internal.Products.product.Goals as goal

pub returns : goal.returns
returns c = turned c.read-a.ensures c.read-b.ensures c.exact_product.ensures
