use Rattle.std.proofs.Common.{refl}
use lib.Signed.{le_z_yes}
use Rattle.wide_sum.specs.Wide.{held, held_both}
use Rattle.wide_sum.proofs.WideInterval.nought.Goals as goal

pub returns : goal.returns
unfolding held_both held
returns c =
    (refl, record { lo_near = record { low = le_z_yes tt; high = le_z_yes tt }; hi_near = record { low = le_z_yes tt; high = le_z_yes tt } })
