use mathlib.Core.Path.{◌≡◌, ◌∙◌}
use mathlib.Core.List.{◌++◌}
use mir.Syntax.{w64}
use mir.Val.{SFits}
use mir.ValLaws.{to_z-of_z}
use borrow.Author.Rules.{rules}
use Rattle.report.specs.Decimal.{decimal}
use Rattle.report.specs.Sheet.{bound}
use Rattle.report.proofs.Decimal.{signed}
use Rattle.report.proofs.Sheet.{joined}
use Rattle.report.proofs.internal.sheet.put_bound.Goals as goal

pub returns-clause-text : goal.returns-clause-text
unfolding bound
returns-clause-text c =
    let v = c.args.v in
    let l : SFits w64 v.lo = search rules in
    let u : SFits w64 v.hi = search rules in
    let lo : c.put_number.new.sheet.items ≡ c.args.sheet.now.items ++ decimal v.lo = c.put_number.ensures.text ∙ rw (to_z-of_z w64 v.lo l, signed v.lo l) in
    let hi : c.put_number-2.new.sheet.items ≡ c.push.new.self.items ++ decimal v.hi = c.put_number-2.ensures.text ∙ rw (to_z-of_z w64 v.hi u, signed v.hi u) in
    rw (hi, c.push.ensures.items, lo) (joined c.args.sheet.now.items (decimal v.lo) 58 (decimal v.hi))
