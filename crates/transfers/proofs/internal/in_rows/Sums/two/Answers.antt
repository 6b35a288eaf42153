use Rattle.transfers.proofs.Terms.{pair}
use Rattle.transfers.proofs.internal.in_rows.Sums.two.Goals as goal

pub two-requires-clause-k_in_bounds : goal.two-requires-clause-k_in_bounds
two-requires-clause-k_in_bounds c =
    let s = c.args.self.now in
    (c.requires.k_in_bounds, pair _ s.rows.rows _ c.requires.k_in_bounds s.rows.range c.requires.signs)
