use mathlib.Core.Path.{sym, ◌∙◌}
use lib.ListN.{length}
use Rattle.outcome.proofs.Run.{carried}
use Rattle.inputs.specs.System.{system}
use Rattle.inputs.proofs.System.{Ready, ready, call_runs, call_fails}
use Rattle.start_box.specs.Call.{run}
use Rattle.start_box.proofs.start_box.Goals as goal
use Rattle.start_box.proofs.start_box.Goals.{In_ok-tested}

pub returns-in_err-tested : goal.returns-in_err-tested
unfolding run
returns-in_err-tested c = rw (carried _ _ c.from_residual.ensures.1) (call_fails _ _ _ (sym c.tested.ensures ∙ c.in_err-tested.was)).is

-- what the tests say when they pass
passed : (c : In_ok-tested) → let a = c.args in Ready (system a.n a.b_matrix.now a.b.now) (length a.bounds.now)
passed c = ready _ _ (sym c.tested.ensures ∙ c.in_ok-tested.was)

pub invariant_of-balance : goal.invariant_of-balance
invariant_of-balance c =
    let w = passed c in
    record {
      square = record { few = w.fitting.few; long = w.fitting.matrix; sound = w.proper.matrix };
      tested = record { few = w.fitting.few; long = w.fitting.right; sound = w.proper.right };
    }

pub begin-requires : goal.begin-requires
begin-requires c = (passed (goal.at.begin-requires c).In_ok-tested).fitting.box

pub returns : goal.returns
unfolding run
returns c = (call_runs _ _ _ (sym c.tested.ensures ∙ c.in_ok-tested.was) c.begin.ensures).is
