use Rattle.text.proofs.Field.{stop_is}
use Rattle.text.proofs.internal.field.stop_from.Goals as goal

pub returns : goal.returns
returns c = rw c.unwrap_or.ensures (stop_is _ _ c.requires _ (c.first.ensures.value, c.first.ensures.within))
