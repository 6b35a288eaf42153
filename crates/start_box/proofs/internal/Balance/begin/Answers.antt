use mathlib.Core.Path.{sym, ap, ◌∙◌}
use borrow.Author.Rules.{rules}
use mir.Syntax.{w64}
use mir.Val.{SFits}
use mir.ValLaws.{to_z-of_z}
use Rattle.start_box.specs.Code.{reach_of}
use Rattle.start_box.proofs.Widen.{begun_goes}
use Rattle.start_box.proofs.internal.Balance.begin.Goals as goal

pub returns : goal.returns
returns c =
    let fits : SFits w64 c.in_ok-distance.distance = search rules in
    begun_goes _ _ (ap reach_of (sym c.in_ok-distance.was) ∙ c.reach.ensures) (rw (to_z-of_z w64 _ fits) at c.write.ensures)
