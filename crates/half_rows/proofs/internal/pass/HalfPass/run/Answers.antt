use mathlib.Core.Path.{sym, ◌∙◌}
use Prim.Native.Nat.{◌<◌}
use native.Mathlib.Omega.{arith}
use Rattle.std.proofs.lemmas.Result.{err_from_is_err_and}
use Rattle.wide_sum.proofs.Near.{near_both_more}
use Rattle.half_rows.proofs.Pass.{halfway_start, halfway_end, below, not_due, halfway_ill, halfway_stop, halfway_go, halfway_above, next_near}
use Rattle.half_rows.proofs.internal.pass.HalfPass.run.Goals as goal
use Rattle.half_rows.proofs.internal.pass.HalfPass.run.Goals.{After-component-i}

pub loop-k-init : goal.loop-k-init
loop-k-init c = (halfway_start _ _ c.requires.0 c.requires.1, c.all_above-above.ensures)

-- the component of a turn is one of the box
in_box : (c : After-component-i) → c.component-i.result < c.args.self.n
in_box c = below c.loop-k.invariant.0 c.loop-k-test.true c.component-i.ensures

pub step-requires : goal.step-requires
step-requires c = (in_box (goal.at.step-requires c).After-component-i, c.loop-k.invariant.0.boxed, c.loop-k.invariant.1)

pub returns-in_err-v : goal.returns-in_err-v
returns-in_err-v c =
    let p = err_from_is_err_and c.from_residual.result c.from_residual.ensures.1 in
    let q = c.in_err-v.ensures {u = tt} in
    rw (p.1, p.2, not_due c.step.result q.ok_part q.value)
    (halfway_ill c.loop-k.invariant.0 c.loop-k-test.true c.component-i.ensures q.ok_part c.step.ensures)

pub overflow_add-result : goal.overflow_add-result
overflow_add-result c = omega (arith, in_box (goal.at.overflow_add-result c).After-component-i, c.args.self.few)

pub returns-then-is_empty : goal.returns-then-is_empty
returns-then-is_empty c =
    halfway_stop c.loop-k.invariant.0 c.loop-k-test.true c.component-i.ensures (c.in_ok-v.ensures {u = tt}).ok_part c.step.ensures (sym c.is_empty.ensures ∙ c.if-is_empty.true)

pub write-requires : goal.write-requires
write-requires c = omega (arith, in_box (goal.at.write-requires c).After-component-i, c.loop-k.invariant.0.boxed.long)

pub write_sum-requires : goal.write_sum-requires
write_sum-requires c = (
  omega (arith, in_box (goal.at.write_sum-requires c).After-component-i, c.loop-k.invariant.0.sums),
  near_both_more (omega arith) (next_near c.loop-k.invariant.0 c.loop-k-test.true c.component-i.ensures (c.in_ok-v.ensures {u = tt}).ok_part c.step.ensures),
)

pub loop-k-preserved : goal.loop-k-preserved
loop-k-preserved c =
    let w = c.loop-k.invariant in
    let e = (c.in_ok-v.ensures {u = tt}).ok_part in (
      halfway_go w.0 c.loop-k-test.true c.component-i.ensures e c.step.ensures (sym c.is_empty.ensures ∙ c.if-is_empty.false) c.write.ensures c.write_sum.ensures,
      λ a. halfway_above w.0 c.loop-k-test.true c.component-i.ensures e c.step.ensures (w.1 a) c.write.ensures,
    )

pub returns : goal.returns
returns c = halfway_end c.loop-k.invariant.0 c.loop-k-test.false
