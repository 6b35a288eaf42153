use mathlib.Core.Path.{sym, ◌∙◌}
use Rattle.elimination.specs.Call.{run_A}
use Rattle.inputs.proofs.System.{call_runs, call_fails}
use Rattle.elimination.proofs.Call.{handed_on}
use Rattle.elimination.proofs.eliminate.Goals as goal

pub returns-in_err-tested : goal.returns-in_err-tested
unfolding run_A
returns-in_err-tested c = (handed_on c.from_residual.ensures.1 (call_fails _ _ _ (sym c.tested.ensures ∙ c.in_err-tested.was))).is

pub returns : goal.returns
unfolding run_A
returns c = (call_runs _ _ _ (sym c.tested.ensures ∙ c.in_ok-tested.was) c.solve.ensures).is
