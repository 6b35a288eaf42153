use mathlib.Core.Path.{sym, ◌∙◌}
use Rattle.inputs.specs.System.{system}
use Rattle.sweep.specs.Code.{call_over}
use Rattle.sweep.proofs.Tests.{ready}
use Rattle.sweep.proofs.Log.{call_runs, call_fails}
use Rattle.sweep.proofs.internal.calls.swept.Goals as goal

pub run-requires : goal.run-requires
run-requires c = ready (system c.args.n c.args.matrix.now c.args.right.now) _ _ (sym c.tested.ensures ∙ c.in-Ok.is)

pub returns-in-Ok : goal.returns-in-Ok
unfolding call_over
returns-in-Ok c = call_runs _ _ _ (sym c.tested.ensures ∙ c.in-Ok.is) c.run.ensures

pub returns-in-Err : goal.returns-in-Err
unfolding call_over
returns-in-Err c = call_fails _ _ _ (sym c.tested.ensures ∙ c.in-Err.is)
