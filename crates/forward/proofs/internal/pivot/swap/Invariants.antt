use mathlib.Core.Path.{◌≡◌}
use Prim.Native.Nat.{◌-◌}
use Rattle.forward.specs.Pivot.{swapped_columns}
use Rattle.forward.proofs.internal.pivot.swap.Given as goal

abbrev pub invariant-loop-j : goal.invariant-loop-j
invariant-loop-j l =
    (swapped_columns l.n l.k l.i (l.n - l.k) l.k l.initial.t ≡ swapped_columns l.n l.k l.i (l.n - l.j) l.j l.t)
