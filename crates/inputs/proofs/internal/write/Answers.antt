use borrow.Author.Rules.{rules}
use Rattle.inputs.specs.Place.{put}
use Rattle.inputs.proofs.internal.write.Goals as goal

pub returns : goal.returns
unfolding put
returns c = search rules
