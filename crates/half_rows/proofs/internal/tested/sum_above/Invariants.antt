use Prim.Native.Nat.{◌≤◌}
use Rattle.half_rows.proofs.Shares.{SoFar}
use Rattle.half_rows.proofs.internal.tested.sum_above.Given as goal

abbrev pub invariant-loop-j : goal.invariant-loop-j
invariant-loop-j l = (l.j ≤ l.d) × SoFar l.h l.p l.x l.q l.j l.sum
