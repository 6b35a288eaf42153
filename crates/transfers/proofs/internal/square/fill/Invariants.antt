use Rattle.std.proofs.Common.{◌≡◌, ◌-◌, length}
use Rattle.transfers.specs.Listing.{filled, transfers_of}
use Rattle.transfers.specs.Code.{all_good}
use Rattle.transfers.proofs.internal.square.fill.Given as goal

-- the records that are left decide, and are still to be written
abbrev pub invariant-loop-r : goal.invariant-loop-r
invariant-loop-r l = record {
  long : length l.square ≡ length l.initial.square;
  good : all_good l.n (transfers_of l.rs) (length (transfers_of l.rs)) 0 0 ≡ all_good l.n (transfers_of l.rs) (length l.rs - l.r-index) l.r-index l.next;
  matrix : filled l.n (transfers_of l.rs) (length (transfers_of l.rs)) 0 l.initial.square ≡ filled l.n (transfers_of l.rs) (length l.rs - l.r-index) l.r-index l.square;
}
