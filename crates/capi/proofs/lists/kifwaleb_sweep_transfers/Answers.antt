use mathlib.Core.Path.{◌∙◌}
use Rattle.capi.proofs.lists.kifwaleb_sweep_transfers.Goals as goal

pub returns : goal.returns
returns c = c.into.ensures _ ∙ c.swept_records.ensures
