use mathlib.Core.Path.{◌≡◌, ap, ◌∙◌}
use mathlib.Core.List.{◌++◌, append_assoc}
use Rattle.text.specs.Bytes.{bytes}
use Rattle.report.specs.Decimal.{natural}
use Rattle.report.specs.Sheet.{counted, settled, spent}
use Rattle.report.specs.Code.{word}
use Rattle.report.proofs.Decimal.{spelled}
use Rattle.report.proofs.internal.sheet.put_counted.Goals as goal
use Rattle.report.proofs.internal.sheet.put_counted.Goals.{in-Done, in-Spent}

pub returns : goal.returns
unfolding counted settled spent bytes
returns c =
    let s = c.args.sheet.now.items in
    let w : c.match-ending.sheet.items ≡ s ++ word c.args.ending =
    elim c.match-ending.branch [ in-Done w ↦ rw (w.sheet-is, w.put.ensures, w.in-Done.is) | in-Spent w ↦ rw (w.sheet-is, w.put-in-Spent.ensures, w.in-Spent.is) ] in
    let n : c.put_number.new.sheet.items ≡ c.push.new.self.items ++ natural c.args.count = c.put_number.ensures.text ∙ ap (λ t. c.push.new.self.items ++ t) (spelled _ c.ranges.count.fits) in
    rw (c.push-2.ensures.items, n, c.push.ensures.items, w) (simp append_assoc)
