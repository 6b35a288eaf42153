use Rattle.std.proofs.Common.{◌≡◌, ◌+◌, ◌-◌, ◌*◌}
use Rattle.rows.proofs.Size.{Small}
use Rattle.transfers.specs.Listing.{transfers_of}
use Rattle.transfers.specs.Rows.{end, summed, row_sum}
use Rattle.transfers.proofs.internal.in_rows.Sums.short_sum.Given as goal

-- j pairs are added
abbrev pub invariant-loop-j : goal.invariant-loop-j
invariant-loop-j l = record {
  so_far :
      let ts = transfers_of l.self.rows.records.now in
      row_sum ts l.self.rows.ends.now l.self.x.now l.i ≡ summed ts l.self.x.now (end l.self.rows.ends.now (l.i + 1) - (l.from + 2 * l.j)) (l.from + 2 * l.j) l.sum;
  small : Small (2 * l.j * 268435456000000000) l.sum;
}
