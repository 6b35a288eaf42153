use mathlib.Core.Path.{◌≡◌}
use Prim.Native.Nat.{◌-◌}
use Rattle.forward.specs.Pivot.{lowest_from}
use Rattle.forward.proofs.internal.pivot.choose.Given as goal

abbrev pub invariant-loop-i : goal.invariant-loop-i
invariant-loop-i l = (lowest_from l.n l.k (l.n - l.k) l.k l.t ≡ lowest_from l.n l.k (l.n - l.i) l.i l.t)
