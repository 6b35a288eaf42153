use Rattle.std.proofs.Common.{◌≡◌, ◌++◌, take, drop}
use Rattle.transfers.specs.Code.{records_of}
use Rattle.transfers.proofs.internal.gather.gather.Given as goal

abbrev pub invariant-loop-k : goal.invariant-loop-k
invariant-loop-k l = l.rs ≡ records_of (take l.k l.ts) ++ drop l.k l.initial.rs
