use mathlib.Core.Path.{◌≡◌}
use Prim.Native.Nat.{◌-◌}
use Rattle.std.specs.Prelude.{Ok}
use Rattle.forward.specs.Pivot.{lowest_row}
use Rattle.forward.specs.Forward.{table, columns, rows, pivots}
use Rattle.forward.specs.Code.{Working}
use Rattle.forward.proofs.internal.forward.forward.Given as goal

abbrev pub invariant-loop-j : goal.invariant-loop-j
invariant-loop-j l =
    Working l.n l.t × (columns l.n l.k l.i l.m (l.n - l.initial.j) l.initial.j l.initial.t ≡ columns l.n l.k l.i l.m (l.n - l.j) l.j l.t) × (l.ending ≡ Ok tt)

abbrev pub invariant-loop-i : goal.invariant-loop-i
invariant-loop-i l =
    Working l.n l.t × (rows l.n l.k l.p (l.n - l.initial.i) l.initial.i l.initial.t ≡ rows l.n l.k l.p (l.n - l.i) l.i l.t) × (l.ending ≡ Ok tt)

abbrev pub invariant-pivots : goal.invariant-pivots
invariant-pivots l =
    Working l.n l.t ×
    (pivots lowest_row l.n (l.n - l.initial.k) l.initial.k (table l.initial.t l.initial.taken) ≡ pivots lowest_row l.n (l.n - l.k) l.k (table l.t l.taken)) ×
    (l.ending ≡ Ok tt)
