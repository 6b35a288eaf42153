use mathlib.Core.Path.{sym, ◌∙◌}
use Rattle.elimination.specs.Call.{run_B}
use Rattle.inputs.proofs.System.{call_runs, call_fails}
use Rattle.elimination.proofs.Call.{handed_on}
use Rattle.elimination.proofs.eliminate_balance.Goals as goal

pub returns-in_err-tested : goal.returns-in_err-tested
unfolding run_B
returns-in_err-tested c = (handed_on c.from_residual.ensures.1 (call_fails _ _ _ (sym c.tested.ensures ∙ c.in_err-tested.was))).is

pub returns : goal.returns
unfolding run_B
returns c = (call_runs _ _ _ (sym c.tested.ensures ∙ c.in_ok-tested.was) c.solve_balance.ensures).is
