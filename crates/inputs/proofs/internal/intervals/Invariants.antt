use mathlib.Core.Path.{◌≡◌}
use Prim.Native.Nat.{◌-◌, ◌≤◌}
use Rattle.inputs.specs.Tests.{proper}
use Rattle.inputs.proofs.internal.intervals.Given as goal

abbrev pub invariant-loop-p : goal.invariant-loop-p
invariant-loop-p l = (l.p ≤ l.count) × (proper l.s l.count 0 l.from ≡ proper l.s (l.count - l.p) l.p l.from)

abbrev pub decreases-loop-p : goal.decreases-loop-p
decreases-loop-p l = l.count - l.p
