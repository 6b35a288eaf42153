use mathlib.Core.Path.{refl, sym, ◌∙◌}
use Prim.Native.Nat.{◌+◌, ◌*◌, ◌≤◌}
use native.Mathlib.Omega.{arith}
use Rattle.inputs.specs.System.{system}
use Rattle.inputs.proofs.Tests.{square}
use Rattle.wide_sum.proofs.Near.{near_both_more}
use Rattle.half_rows.specs.Rows.{begin}
use Rattle.half_rows.proofs.Row.{Spans, spans}
use Rattle.half_rows.proofs.Loaded.{sides_end, sides_turn, row_end}
use Rattle.half_rows.proofs.internal.load.Load.right_sums.Goals as goal
use Rattle.half_rows.proofs.internal.load.Load.right_sums.Goals.{After-beside-d}

-- where the products right of the diagonal lie, and where the last of them is
placed : (c : After-beside-d) → Spans c.args.self.n c.loop-i.i c.loop-i.i c.first-q.result c.beside-d.result
unfolding begin
placed c = spans _ _ _ refl c.first-q.ensures c.beside-d.ensures c.loop-i-test.true

ends : (c : After-beside-d) → let n = c.args.self.n in (c.loop-i.i * n + c.first-q.result + c.beside-d.result ≤ n * n) × (n * n ≤ 1024)
ends c = (row_end _ _ _ _ c.loop-i-test.true (placed c).box, square _ c.args.self.ready.few)

pub overflow_add-products : goal.overflow_add-products
overflow_add-products c = omega (arith, ends (goal.at.overflow_add-products c).After-beside-d)

pub invariant_of-products : goal.invariant_of-products
invariant_of-products c =
    let r = c.args.self.ready in
    let s = (goal.at.invariant_of-products c).After-beside-d in
    let w = placed s in record {
      sound = (r.matrix_sound, r.box_sound);
      inside = (omega (arith, ends s, r.matrix), omega (arith, w.box, r.box), omega (arith, w.few, r.few));
    }

pub write_sum-requires : goal.write_sum-requires
write_sum-requires c =
    let w = placed (goal.at.write_sum-requires c).After-beside-d in
    (omega arith, near_both_more (omega (arith, w.few, c.args.self.ready.few)) (c.added_to.ensures.near 0 c.nought.ensures.1))

pub loop-i-preserved : goal.loop-i-preserved
loop-i-preserved c =
    let s = c.args.self in
    c.loop-i.invariant
    ∙ sides_turn (system s.n s.matrix.now s.right.now) s.bounds.now c.loop-i.i c.loop-i.sums c.loop-i-test.true c.first-q.ensures c.beside-d.ensures
    c.nought.ensures.0 c.added_to.ensures.is c.write_sum.ensures

pub returns : goal.returns
returns c =
    let s = c.args.self in
    sym (c.loop-i.invariant ∙ sides_end (system s.n s.matrix.now s.right.now) s.bounds.now c.loop-i.i c.loop-i.sums c.loop-i-test.false)
