use Rattle.transfers.proofs.Terms.{both_known}
use Rattle.transfers.proofs.internal.in_rows.Sums.short_two.Goals as goal

pub both_above-requires-clause-signs : goal.both_above-requires-clause-signs
both_above-requires-clause-signs c = λ e. both_known _ c.args.self.now.rows.rows _ c.requires.k_in_bounds (c.args.self.now.signs e)
