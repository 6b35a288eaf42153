use Rattle.std.proofs.Common.{length, rules}
use native.Mathlib.Nat.{sub-zero}
use Rattle.transfers.proofs.internal.tests.shares.Goals as goal

pub returns : goal.returns
returns c = rw (← sub-zero (length c.args.rs.now)) (search rules)
