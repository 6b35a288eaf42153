use Prim.Native.Nat.{◌*◌, ◌≤◌}
use lib.ListN.{length}
use Rattle.text.proofs.Entered.{Entered}
use Rattle.text.proofs.internal.names.read_names.Given as goal

-- a name and the byte after it take 17 bytes at most
abbrev pub invariant-loop-n : goal.invariant-loop-n
invariant-loop-n l = (l.at ≤ length l.line) × (l.at ≤ 17 * l.n) × Entered l.line l.at l.n l.codes.items
