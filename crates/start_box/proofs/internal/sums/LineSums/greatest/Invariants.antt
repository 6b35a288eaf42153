use mathlib.Core.Path.{◌≡◌}
use Prim.Native.Nat.{◌-◌}
use lib.IntN.{pos}
use Rattle.start_box.specs.Sums.{greatest}
use Rattle.start_box.specs.Code.{sums_of}
use Rattle.start_box.proofs.internal.sums.LineSums.greatest.Given as goal

abbrev pub invariant-loop-i : goal.invariant-loop-i
invariant-loop-i l = (greatest (sums_of l.self) l.self.n 0 (pos 0) ≡ greatest (sums_of l.self) (l.self.n - l.i) l.i (l.most))
