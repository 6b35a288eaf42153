use borrow.Author.Rules.{rules}
use Rattle.inputs.specs.Place.{at}
use Rattle.inputs.proofs.internal.read.Goals as goal

pub returns : goal.returns
unfolding at
returns c = search rules
