use Rattle.std.proofs.Common.{◌∙◌}
use Rattle.transfers.proofs.Rows.{row_once}
use Rattle.transfers.proofs.internal.balance.ListedBalance.row_sum.Goals as goal

pub returns : goal.returns
returns c =
    let w = c.args.self.now.rows in
    c.row.ensures ∙ row_once _ _ _ w.range w.rows c.args.x.now c.args.i c.requires.in_bounds
