use Rattle.transfers.proofs.Entered.{entered_at_once, entered_after}
use Rattle.transfers.proofs.internal.square.enter.Goals as goal

pub returns-in-Some : goal.returns-in-Some
returns-in-Some c = entered_at_once c.in-Some.ensures

pub returns-in-None : goal.returns-in-None
returns-in-None c = entered_after c.in-None.ensures c.judged.ensures
