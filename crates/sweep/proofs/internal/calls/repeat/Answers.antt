use mathlib.Core.Path.{ap, ◌∙◌}
use native.Mathlib.Omega.{arith}
use Rattle.std.specs.Prelude.{Ok}
use Rattle.sweep.proofs.Log.{midway_start, midway_refused, midway_settled, midway_go, midway_spent}
use Rattle.sweep.proofs.internal.calls.repeat.Goals as goal

pub loop-count-init : goal.loop-count-init
loop-count-init g c = record { ready = c.requires; midway = midway_start _ _ _ _ }

pub returns-in-Err : goal.returns-in-Err
returns-in-Err g c = midway_refused c.loop-count.invariant.midway c.loop-count-test.true c.pass_once.ensures.passed c.in-Err.is

pub returns-in-Ok-false : goal.returns-in-Ok-false
returns-in-Ok-false g c =
    midway_settled c.loop-count.invariant.midway c.loop-count-test.true c.pass_once.ensures.passed (omega arith) (c.in-Ok-false.is ∙ ap Ok c.in-Ok-false.field-0-test)

pub loop-count-preserved : goal.loop-count-preserved
loop-count-preserved g c =
    record {
      ready = c.pass_once.ensures.ready;
      midway =
          midway_go c.loop-count.invariant.midway c.loop-count-test.true c.pass_once.ensures.passed (c.in-Ok-true.is ∙ ap Ok c.in-Ok-true.field-0-test);
    }

pub returns : goal.returns
returns g c = midway_spent c.loop-count.invariant.midway (omega arith)
