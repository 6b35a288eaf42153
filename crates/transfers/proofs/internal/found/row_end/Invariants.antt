use Rattle.std.proofs.Common.{◌≡◌, ◌≤◌, length}
use Rattle.transfers.specs.Listing.{transfers_of}
use Rattle.transfers.specs.Rows.{Holds}
use Rattle.transfers.proofs.RowEnd.{SoFar, Kept}
use Rattle.transfers.proofs.internal.found.row_end.Given as goal

-- the row so far
abbrev pub invariant-loop-k : goal.invariant-loop-k
invariant-loop-k l = record {
  end : l.row.end ≡ l.k;
  inside : l.k ≤ length l.rs;
  few : l.row.columns ≤ 9_223_372_036_854_775_807;
  held : Holds l.row.hull l.fn.held;
  so_far : SoFar l.n (transfers_of l.rs) l.i l.from l.row.end l.row.columns l.row.hull;
  kept : (few : l.n ≤ 32) → Kept l.n (transfers_of l.rs) few l.i l.from l.fn.held l.row.end l.row.columns l.row.hull;
}
