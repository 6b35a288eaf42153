use mathlib.Core.Path.{ap}
use mathlib.Core.List.{◌∷◌, ◌++◌}
use Prim.Native.Nat.{◌+◌, ◌-◌}
use native.Mathlib.Omega.{arith}
use Rattle.outcome.proofs.Run.{carried}
use Rattle.sweep.specs.Pass.{up, down}
use Rattle.sweep.specs.Code.{pass}
use Rattle.sweep.proofs.Turns.{back, up_more, up_end, down_more, down_end}
use Rattle.sweep.proofs.Pass.{Halfway, halfway_start, halfway_back, halfway_go, passed, passed_stop, passed_nothing}
use Rattle.sweep.proofs.internal.pass.pass_once.Goals as goal
use Rattle.sweep.proofs.internal.pass.pass_once.Goals.{In-loop-i, After-loop-i, In-loop-i-2}

pub returns-in_default-clause-passed : goal.returns-in_default-clause-passed
returns-in_default-clause-passed g c = rw c.in_default.is (passed_nothing (g.B.Balance.system c.args.balance.now) (g.met.B.Balance.all_sound _ _ c.requires).box_sound)

pub loop-i-init : goal.loop-i-init
loop-i-init g c = rw c.in-Some.is (halfway_start c.in-Some.way (g.B.Balance.system c.args.balance.now) (omega arith) (g.met.B.Balance.all_sound _ _ c.requires))

-- component i is the next, on the way there and on the way back; between them nothing but the way back is left
next : (g : _) (c : In-loop-i g) →
    let s = g.B.Balance.system c.args.balance.now in
    Halfway s (pass c.args.way s c.args.x.now) (c.loop-i.i ∷ (up (s.size - (c.loop-i.i + 1)) (c.loop-i.i + 1) ++ back c.in-Some.way s.size)) c.args.x.now c.loop-i.x c.loop-i.changed
next g c = rw (up_more (rw c.size-n.ensures at c.loop-i-test.true)) at c.loop-i.invariant

turned : (g : _) (c : After-loop-i g) →
    let s = g.B.Balance.system c.args.balance.now in
    Halfway s (pass c.args.way s c.args.x.now) (back c.in-Some.way s.size) c.args.x.now c.loop-i.x c.loop-i.changed
turned g c = rw (up_end (rw c.size-n.ensures at c.loop-i-test.false)) at c.loop-i.invariant

next_back : (g : _) (c : In-loop-i-2 g) →
    let s = g.B.Balance.system c.args.balance.now in
    let i = c.loop-i-2.i in
    Halfway s (pass c.args.way s c.args.x.now) ((i - 1) ∷ down (i - 1)) c.args.x.now c.loop-i-2.x c.loop-i-2.changed
next_back g c = rw (down_more _ c.loop-i-2-test.true) at c.loop-i-2.invariant

pub returns-in_err-changed-clause-passed : goal.returns-in_err-changed-clause-passed
returns-in_err-changed-clause-passed g c =
    passed_stop (next g (goal.at.returns-in_err-changed-clause-passed g c).In-loop-i) (carried _ _ c.from_residual.ensures.1) c.in_err-changed.ensures

pub loop-i-preserved : goal.loop-i-preserved
loop-i-preserved g c = halfway_go (next g (goal.at.loop-i-preserved g c).In-loop-i) (rw c.size-n.ensures at c.loop-i-test.true) c.in_ok-changed.ensures

pub loop-i-2-init : goal.loop-i-2-init
loop-i-2-init g c = halfway_back c.in-ThereAndBack.is (omega (arith, c.size-n.ensures)) (turned g (goal.at.loop-i-2-init g c).After-loop-i)

pub returns-in_err-changed-in-ThereAndBack-clause-passed : goal.returns-in_err-changed-in-ThereAndBack-clause-passed
returns-in_err-changed-in-ThereAndBack-clause-passed g c =
    passed_stop (next_back g (goal.at.returns-in_err-changed-in-ThereAndBack-clause-passed g c).In-loop-i-2)
    (carried _ _ c.from_residual-in_err-changed-in-ThereAndBack.ensures.1) c.in_err-changed-in-ThereAndBack.ensures

pub loop-i-2-preserved : goal.loop-i-2-preserved
loop-i-2-preserved g c =
    halfway_go (next_back g (goal.at.loop-i-2-preserved g c).In-loop-i-2) (omega (arith, c.size-n.ensures)) c.in_ok-changed-in-ThereAndBack.ensures

pub returns-in-There-clause-passed : goal.returns-in-There-clause-passed
returns-in-There-clause-passed g c =
    passed (ap (λ w. back w (g.B.Balance.system c.args.balance.now).size) c.in-There.is) (turned g (goal.at.returns-in-There-clause-passed g c).After-loop-i)

pub returns-after-loop-i-2-clause-passed : goal.returns-after-loop-i-2-clause-passed
returns-after-loop-i-2-clause-passed g c = passed (down_end c.loop-i-2-test.false) c.loop-i-2.invariant
