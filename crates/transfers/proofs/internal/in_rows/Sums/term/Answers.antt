use Rattle.transfers.proofs.Terms.{factors}
use Rattle.transfers.proofs.internal.in_rows.Sums.term.Goals as goal

pub term-requires-clause-k_in_bounds : goal.term-requires-clause-k_in_bounds
term-requires-clause-k_in_bounds c =
    let s = c.args.self.now in
    (c.requires.k_in_bounds, factors _ s.rows.rows _ c.requires.k_in_bounds s.rows.range c.requires.signs)
