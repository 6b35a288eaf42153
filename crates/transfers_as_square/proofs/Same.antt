-- A call from a list that passes its own tests is the square's call.
use Rattle.inputs.specs.Tests.{tested}
use Rattle.sweep.specs.Calls.{returned_by}
use Rattle.transfers.specs.Call.{run_list, sweep_list}
use Rattle.transfers_as_square.specs.Claim.{SameAsSquare}

pub same_as_square : SameAsSquare
unfolding run_list sweep_list returned_by tested
same_as_square s = record { elimination = λ X e. rw e; sweeps = λ c X e. rw e }
