use Rattle.transfers.proofs.Terms.{pair}
use Rattle.transfers.proofs.internal.in_rows.Sums.both_above.Goals as goal

pub both_above-requires-clause-k_in_bounds : goal.both_above-requires-clause-k_in_bounds
both_above-requires-clause-k_in_bounds c =
    let s = c.args.self.now in
    (c.requires.k_in_bounds, pair _ s.rows.rows _ c.requires.k_in_bounds s.rows.range c.requires.signs)
