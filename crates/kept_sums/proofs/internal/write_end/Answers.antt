use mathlib.Core.Path.{◌∙◌}
use native.Mathlib.Omega.{arith}
use mir.Syntax.{w64}
use mir.ValLaws.{to_z-of_z}
use Rattle.integer.proofs.Machine.{plain}
use Rattle.wide_sum.proofs.Carry.{high_fits}
use Rattle.kept_sums.proofs.Words.{end_put, sunk_is}
use Rattle.kept_sums.proofs.internal.write_end.Goals as goal

pub returns : goal.returns
returns c =
    end_put c.args.w (omega arith) _ _ (to_z-of_z w64 _ (high_fits c.requires.1)) (plain _ c.saturating_add_unsigned.type_inv ∙ c.saturating_add_unsigned.ensures ∙ sunk_is _ (omega arith))
