use mathlib.Core.Path.{◌≡◌}
use mathlib.Core.Bool.{true}
use Rattle.rows.specs.Word.{NoneBelow}
use Rattle.half_rows.specs.Code.{is_back}
use Rattle.half_rows.proofs.Pass.{Halfway}
use Rattle.half_rows.proofs.internal.pass.HalfPass.run.Given as goal

abbrev pub invariant-loop-k : goal.invariant-loop-k
invariant-loop-k l =
    let s = l.self in
    Halfway s.n (is_back s.way) s.matrix.now s.right.now s.kept.now l.initial.x l.initial.sums l.k l.x l.sums × (l.above ≡ true → NoneBelow l.x)
