use Rattle.std.proofs.Common.{◌≡◌, true, ◌-◌, ◌*◌, ◌≤◌, length}
use Rattle.interval.specs.Interval.{zero}
use Rattle.transfers.specs.Listing.{transfers_of}
use Rattle.transfers.specs.Code.{all_good}
use Rattle.transfers.specs.Rows.{Holds, InRange}
use Rattle.transfers.proofs.RowEnd.{Found}
use Rattle.transfers.proofs.internal.found.find_rows.Given as goal

-- the rows before row i
abbrev pub invariant-loop-i : goal.invariant-loop-i
invariant-loop-i l = record {
  within : l.from ≤ length l.rs;
  found : Found l.n (transfers_of l.rs) l.ends l.all l.from l.i;
  range : InRange l.all;
  held : Holds l.all zero;
  good : all_good l.n (transfers_of l.rs) (length (transfers_of l.rs)) 0 0 ≡ true → all_good l.n (transfers_of l.rs) (length (transfers_of l.rs) - l.from) l.from (l.i * l.n) ≡ true;
}
