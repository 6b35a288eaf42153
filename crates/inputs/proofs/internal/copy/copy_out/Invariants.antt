use Rattle.std.proofs.Common.{◌≡◌, ◌≤◌, length, drop}
use Rattle.std.proofs.Math.Seq.{paste}
use Rattle.inputs.proofs.internal.copy.copy_out.Given as goal

-- a copy to the front of x₀, of what stands in t from a place on
abbrev pub invariant-loop-i : goal.invariant-loop-i
invariant-loop-i l = record {
  inside : l.i ≤ length l.initial.x;
  room : length l.x ≡ length l.initial.x;
  so_far : l.x ≡ paste l.initial.x 0 (drop l.from l.t) l.i;
}
