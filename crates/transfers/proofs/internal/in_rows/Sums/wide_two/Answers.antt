use Rattle.transfers.proofs.Terms.{pair, two_above}
use Rattle.transfers.proofs.internal.in_rows.Sums.wide_two.Goals as goal

pub raised-requires-clause-pos_bound : goal.raised-requires-clause-pos_bound
raised-requires-clause-pos_bound c =
    let s = c.args.self.now in
    rw c.two.ensures (two_above (pair _ s.rows.rows _ c.requires.0 s.rows.range (λ _. c.both_above.ensures c.if-both_above.true)) s.sound)
