use mathlib.Core.Path.{◌≡◌}
use Prim.Native.Nat.{◌-◌}
use lib.IntN.{pos}
use Rattle.start_box.specs.Code.{system_of}
use Rattle.start_box.specs.Reach.{over_rows}
use Rattle.start_box.proofs.internal.Balance.over_rows.Given as goal

abbrev pub invariant-loop-i : goal.invariant-loop-i
invariant-loop-i l = (over_rows (system_of l.self) l.self.n 0 (pos 0) ≡ over_rows (system_of l.self) (l.self.n - l.i) l.i (l.most))
