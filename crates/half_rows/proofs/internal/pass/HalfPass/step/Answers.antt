use Prim.Native.Nat.{◌+◌, ◌*◌, ◌≤◌}
use native.Mathlib.Omega.{arith}
use Rattle.inputs.specs.System.{system}
use Rattle.kept_sums.specs.Kept.{sum_at, sum_ready}
use Rattle.half_rows.specs.Code.{is_back}
use Rattle.half_rows.proofs.Row.{half_end, half_is, stepped_half}
use Rattle.half_rows.proofs.internal.pass.HalfPass.step.Goals as goal
use Rattle.half_rows.proofs.internal.pass.HalfPass.step.Goals.{After-beside-d}

-- the half row ends within the n rows
ends : (c : After-beside-d) → let s = c.args.self in (c.args.i * s.n + c.begin-from.result + (c.beside-d.result + 1) ≤ s.n * s.n) × (s.n * s.n ≤ 1024)
ends c = half_end _ _ _ c.begin-from.ensures c.beside-d.ensures c.requires.0 c.args.self.few

pub overflow_add-p : goal.overflow_add-p
overflow_add-p c = omega (arith, ends (goal.at.overflow_add-p c).After-beside-d)

pub overflow_add-e : goal.overflow_add-e
overflow_add-e c = omega (arith, ends (goal.at.overflow_add-e c).After-beside-d)

pub overflow_add-e-2 : goal.overflow_add-e-2
overflow_add-e-2 c = omega (arith, ends (goal.at.overflow_add-e-2 c).After-beside-d)

pub overflow_mul-p-2 : goal.overflow_mul-p-2
overflow_mul-p-2 c = omega (arith, ends (goal.at.overflow_mul-p-2 c).After-beside-d)

pub overflow_mul-e : goal.overflow_mul-e
overflow_mul-e c = omega (arith, ends (goal.at.overflow_mul-e c).After-beside-d)

pub offset_bounds-self-p : goal.offset_bounds-self-p
offset_bounds-self-p c = omega (arith, ends (goal.at.offset_bounds-self-p c).After-beside-d)

pub slice_bounds-on_half_row-end : goal.slice_bounds-on_half_row-end
slice_bounds-on_half_row-end c = omega (arith, ends (goal.at.slice_bounds-on_half_row-end c).After-beside-d, c.args.self.matrix_len)

pub returns : goal.returns
returns c =
    let s = c.args.self in
    let b = is_back s.way in
    stepped_half b (system s.n s.matrix.now s.right.now) c.args.x.now c.args.i c.requires.0 (sum_ready s.kept.now c.args.i) (sum_at s.kept.now c.args.i) c.on_half_row.result
    (half_is b s.n c.args.i s.matrix.now s.right.now c.begin-from.ensures c.beside-d.ensures) c.on_half_row.ensures
