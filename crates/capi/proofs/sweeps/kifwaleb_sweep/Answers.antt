use mathlib.Core.Path.{◌∙◌}
use Rattle.capi.proofs.sweeps.kifwaleb_sweep.Goals as goal

pub returns : goal.returns
returns c = c.into.ensures _ ∙ c.sweep.ensures
