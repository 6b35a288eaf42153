use mathlib.Core.Path.{sym, ◌∙◌}
use Rattle.forward.proofs.Step.{placed_in}
use Rattle.forward.proofs.internal.step.place.Goals as goal

pub returns : goal.returns
returns c =
    placed_in _ _ _ c.requires.0 _ c.requires.1 c.requires.2 (sym c.is_in_range.ensures ∙ c.if-not-is_in_range.false) c.write.ensures
