use mathlib.Core.Path.{refl, sym, ap, ◌∙◌}
use mir.Syntax.{w64}
use mir.Val.{SFits}
use borrow.Author.Rules.{rules}
use Rattle.std.specs.Prelude.{Some, None, option_map}
use Rattle.text.specs.Code.{both}
use Rattle.text.proofs.Values.{value_none, value_ends, ends_kept}
use Rattle.text.proofs.internal.values.value_of.Goals as goal

pub returns-in_err-colon : goal.returns-in_err-colon
returns-in_err-colon c =
    ap (option_map both) c.from_residual.ensures ∙ value_none _ (sym c.first.ensures.value ∙ c.in_err-colon.was)

pub returns-in_err-lo : goal.returns-in_err-lo
returns-in_err-lo c =
    ap (option_map both) c.from_residual-in_err-lo.ensures ∙ value_ends _ None _ (sym c.first.ensures.value ∙ c.in_ok-colon.was) (sym c.in_err-lo.was ∙ c.number_of.ensures) refl

pub returns-in_err-hi : goal.returns-in_err-hi
returns-in_err-hi c =
    ap (option_map both) c.from_residual-in_err-hi.ensures
    ∙ value_ends _ (Some c.in_ok-lo.lo) None (sym c.first.ensures.value ∙ c.in_ok-colon.was) (sym c.in_ok-lo.was ∙ c.number_of.ensures) (sym c.in_err-hi.was ∙ c.number_of-2.ensures)

pub returns : goal.returns
returns c =
    let l : SFits w64 c.in_ok-lo.lo = search rules in
    let u : SFits w64 c.in_ok-hi.hi = search rules in
    ends_kept l u
    ∙ value_ends _ (Some c.in_ok-lo.lo) (Some c.in_ok-hi.hi) (sym c.first.ensures.value ∙ c.in_ok-colon.was) (sym c.in_ok-lo.was ∙ c.number_of.ensures) (sym c.in_ok-hi.was ∙ c.number_of-2.ensures)
