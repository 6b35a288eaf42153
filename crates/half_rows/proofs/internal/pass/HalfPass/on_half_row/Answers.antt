use Prim.Native.Nat.{◌+◌}
use native.Mathlib.Omega.{arith}
use Rattle.inputs.specs.Tests.{proper}
use Rattle.kept_sums.specs.Kept.{sum_ready}
use Rattle.half_rows.specs.Rows.{beside}
use Rattle.half_rows.specs.Code.{is_back}
use Rattle.half_rows.proofs.Row.{Spans, spans, not_tested}
use Rattle.half_rows.proofs.Shares.{side_fails, side_summed, side_none}
use Rattle.half_rows.proofs.internal.pass.HalfPass.on_half_row.Goals as goal
use Rattle.half_rows.proofs.internal.pass.HalfPass.on_half_row.Goals.{After-beside-d}

-- where the half row lies
placed : (c : After-beside-d) → Spans c.args.self.n c.args.i c.begin-from.result c.first-q.result c.beside-d.result
placed c = spans _ _ _ c.begin-from.ensures c.first-q.ensures c.beside-d.ensures c.requires.boxed.0

pub overflow_sub-q : goal.overflow_sub-q
overflow_sub-q c = (placed (goal.at.overflow_sub-q c).After-beside-d).begins

pub tested_sum-requires-clause-d_in_bounds : goal.tested_sum-requires-clause-d_in_bounds
tested_sum-requires-clause-d_in_bounds c =
    let w = placed (goal.at.tested_sum-requires-clause-d_in_bounds c).After-beside-d in
    let p = c.requires.boxed.1 in
    (omega (arith, w.beside_in, c.beside-d.ensures, c.requires.h_len), p.sound, omega (arith, w.box, p.long), omega (arith, w.few, c.args.self.few))

pub returns-in_err-side : goal.returns-in_err-side
returns-in_err-side c =
    let a = c.args in
    let b = is_back a.self.way in
    rw c.from_residual.ensures
    (not_tested (proper a.h.now (beside b a.self.n a.i + 1) 0 0) (sum_ready a.self.kept.now a.i)
    (side_fails b a.self.n a.i a.h.now c.requires.boxed.0
    (side_none b a.self.n a.i a.h.now a.x.now c.begin-from.ensures c.first-q.ensures c.beside-d.ensures c.nought.result _ c.tested_sum.ensures (c.in_err-side.was {u = tt}))))

pub summed-requires-clause-side_summed : goal.summed-requires-clause-side_summed
summed-requires-clause-side_summed c =
    let a = c.args in
    let w = placed (goal.at.summed-requires-clause-side_summed c).After-beside-d in
    side_summed (is_back a.self.way) a.self.n a.i a.h.now a.x.now c.begin-from.ensures c.first-q.ensures c.beside-d.ensures c.nought.result _ c.tested_sum.ensures
    c.nought.ensures.0 c.nought.ensures.1 (omega (arith, w.few, a.self.few)) (c.in_ok-side.was {u = tt})
