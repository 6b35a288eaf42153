use mathlib.Core.Path.{◌≡◌}
use mathlib.Core.List.{List}
use Prim.Native.Nat.{◌+◌, ◌-◌}
use lib.IntN.{ℤ}
use Rattle.inputs.specs.System.{system}
use Rattle.half_rows.specs.Rows.{renew}
use Rattle.half_rows.proofs.internal.narrow.Exchange.renew.Given as goal

abbrev pub invariant-loop-i : goal.invariant-loop-i
invariant-loop-i l =
    let e = l.self in
    (r : List ℤ) → renew (system e.n e.matrix.now r) e.v e.old e.new l.d l.from l.initial.sums ≡ renew (system e.n e.matrix.now r) e.v e.old e.new (l.from + l.d - l.i) l.i l.sums
