use mathlib.Core.Path.{◌≡◌, sym, ap, ◌∙◌}
use Prim.Native.Nat.{ℕ}
use native.Mathlib.Omega.{arith}
use native.Mathlib.Nat.{sub-zero}
use Rattle.interval.specs.Interval.{acceptable}
use Rattle.inputs.specs.Place.{at}
use Rattle.inputs.specs.Tests.{proper}
use Rattle.inputs.proofs.Tests.{proper_end, proper_go, proper_out}
use Rattle.inputs.proofs.internal.intervals.Goals as goal
use Rattle.inputs.proofs.internal.intervals.Goals.{After-is_acceptable}

-- what the test of an interval says of it
told : (a : After-is_acceptable) → acceptable (at a.args.s.now a.loop-p.p) ≡ a.is_acceptable.result
told a = sym (a.is_acceptable.ensures ∙ ap acceptable a.read.ensures)

pub loop-p-init : goal.loop-p-init
loop-p-init c = (omega arith, ap (λ (d : ℕ). proper c.args.s.now d 0 c.args.from) (sym (sub-zero c.args.count)))

pub read-requires : goal.read-requires
read-requires c = omega arith

pub overflow_add-result : goal.overflow_add-result
overflow_add-result c = omega arith

pub returns-then-not-is_acceptable : goal.returns-then-not-is_acceptable
returns-then-not-is_acceptable c =
    sym (c.loop-p.invariant.1 ∙ proper_out _ _ _ _ c.loop-p-test.true (told (goal.at.returns-then-not-is_acceptable c).After-is_acceptable ∙ c.if-not-is_acceptable.true))

pub overflow_step-p : goal.overflow_step-p
overflow_step-p c = omega arith

pub loop-p-smaller : goal.loop-p-smaller
loop-p-smaller c = omega arith

pub loop-p-preserved : goal.loop-p-preserved
loop-p-preserved c =
    (omega arith, c.loop-p.invariant.1 ∙ proper_go _ _ _ _ c.loop-p-test.true (told (goal.at.loop-p-preserved c).After-is_acceptable ∙ c.if-not-is_acceptable.false))

pub returns : goal.returns
returns c = sym (c.loop-p.invariant.1 ∙ proper_end _ _ _ _ c.loop-p-test.false)
