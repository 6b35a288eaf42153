use Rattle.forward.proofs.Step.{ran_is}
use Rattle.elimination.proofs.Call.{handed_on, ended_stop, ended_on}
use Rattle.elimination.proofs.internal.solve.solve_formed.Goals as goal

pub returns-in_err-formed_rows : goal.returns-in_err-formed_rows
returns-in_err-formed_rows c = handed_on c.from_residual.ensures.1 (ended_stop _ _ (ran_is c.formed_rows.ensures c.in_err-formed_rows.was))

pub returns : goal.returns
returns c = ended_on _ (ran_is c.formed_rows.ensures c.in_ok-formed_rows.was) c.finish.ensures
