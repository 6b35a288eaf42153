use mathlib.Core.Path.{ap₂, ◌∙◌}
use borrow.Author.Rules.{rules}
use mir.Syntax.{w64}
use mir.Val.{SFits}
use mir.ValLaws.{to_z-of_z}
use Rattle.integer.specs.Extremes.{minimum, maximum}
use Rattle.integer.proofs.Extremes.{min_is, max_is}
use Rattle.integer.proofs.Machine.{plain}
use Rattle.interval.specs.Interval.{intersection}
use Rattle.interval.proofs.Range.{same_ends}
use Rattle.interval.proofs.internal.intersection.Goals as goal

pub returns : goal.returns
unfolding intersection
returns c =
    let x = c.args.x in
    let y = c.args.y in
    let xl : SFits w64 x.lo = search rules in
    let xh : SFits w64 x.hi = search rules in
    let yl : SFits w64 y.lo = search rules in
    let yh : SFits w64 y.hi = search rules in
    same_ends _ _
    (plain _ c.max.type_inv ∙ c.max.ensures.value ∙ max_is _ _ ∙ ap₂ maximum (to_z-of_z w64 x.lo xl) (to_z-of_z w64 y.lo yl))
    (plain _ c.min.type_inv ∙ c.min.ensures.value ∙ min_is _ _ ∙ ap₂ minimum (to_z-of_z w64 x.hi xh) (to_z-of_z w64 y.hi yh))
