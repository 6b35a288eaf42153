use mathlib.Core.Path.{◌≡◌}
use mathlib.Core.List.{◌++◌}
use Prim.Native.Nat.{◌+◌, ◌-◌, ◌*◌, ◌≤◌}
use Rattle.arrayvec.specs.ArrayVec.{array_vec_len}
use Rattle.report.specs.Sheet.{bounds, further}
use Rattle.report.proofs.internal.sheet.put_bounds.Given as goal

-- with the bounds that are left there will be all of them
abbrev pub invariant-loop-p : goal.invariant-loop-p
invariant-loop-p l =
    (array_vec_len l.sheet + 42 * (l.n - l.p) ≤ array_vec_len l.fn.sheet + 42 * l.n) × (l.sheet.items ++ further (l.n - l.p) l.p l.x ≡ l.fn.sheet.items ++ bounds l.n 0 l.x)
