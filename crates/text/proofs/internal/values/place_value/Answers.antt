use mathlib.Core.Path.{sym, ap, ◌∙◌}
use mathlib.Core.List.{List}
use Prim.Native.Nat.{◌+◌, ◌*◌}
use lib.IntN.{ℤ}
use lib.ListN.{take}
use Rattle.std.specs.Prelude.{Option, Some, option_map}
use Rattle.text.specs.Code.{both, only_if}
use Rattle.text.proofs.Values.{placed, not_placed}
use Rattle.text.proofs.internal.values.place_value.Goals as goal

pub returns-in_err-value_of : goal.returns-in_err-value_of
returns-in_err-value_of c =
    ap (λ r. only_if r (take (2 * (c.args.p + 1)) c.args.t.now)) c.from_residual.ensures
    ∙ not_placed c.args.t.now c.args.p _ (ap (option_map both) (sym c.in_err-value_of.was) ∙ c.value_of.ensures)

pub returns : goal.returns
returns c =
    ap {B = Option (List ℤ)} (λ t. Some (take (2 * (c.args.p + 1)) t)) c.write.ensures
    ∙ placed c.args.t.now c.args.p _ _ c.requires (ap (option_map both) (sym c.in_ok-value_of.was) ∙ c.value_of.ensures)
