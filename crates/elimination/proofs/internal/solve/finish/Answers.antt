use mathlib.Core.Path.{◌≡◌}
use Rattle.outcome.specs.Run.{done}
use Rattle.forward.specs.Pivot.{lowest_row}
use Rattle.forward.specs.Forward.{table, forward}
use Rattle.elimination.specs.Call.{none_taken}
use Rattle.forward.proofs.Kept.{forward_pivots}
use Rattle.forward.proofs.Step.{ran_is, reached_is, working_after}
use Rattle.elimination.proofs.Call.{handed_on, ended_forward, ended_back, ended_done}
use Rattle.elimination.proofs.internal.solve.finish.Goals as goal
use Rattle.elimination.proofs.internal.solve.finish.Goals.{In_ok-forward}

-- the forward part went to its end
went : (c : In_ok-forward) → forward lowest_row c.args.n (table c.args.t.now none_taken) ≡ done (table c.forward.new.t c.forward.new.taken)
went c = reached_is c.forward.ensures c.in_ok-forward.was

pub returns-in_err-forward : goal.returns-in_err-forward
returns-in_err-forward c = handed_on c.from_residual.ensures.1 (ended_forward _ _ _ (reached_is c.forward.ensures c.in_err-forward.was))

pub back-requires : goal.back-requires
back-requires c =
    (working_after c.requires.0 c.forward.auto.t c.forward.ensures.sound, forward_pivots _ _ _ c.requires.0.room (went (goal.at.back-requires c).In_ok-forward))

pub returns-in_err-back : goal.returns-in_err-back
returns-in_err-back c =
    handed_on c.from_residual-in_err-back.ensures.1 (ended_back _ _ _ (went (goal.at.returns-in_err-back c).In_ok-forward) (ran_is c.back.ensures c.in_err-back.was))

pub returns : goal.returns
returns c =
    ended_done _ _ _ (went (goal.at.returns c).In_ok-forward) (ran_is c.back.ensures c.in_ok-back.was) c.requires.1 c.copy_out.ensures
