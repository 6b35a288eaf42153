use mathlib.Core.List.{append_assoc}
use Rattle.report.specs.Sheet.{calculated}
use Rattle.report.proofs.internal.sheet.calculated.Goals as goal

pub returns : goal.returns
unfolding calculated
returns c =
    rw (c.put_counted.ensures, c.push-2.ensures.items, c.put_bounds.ensures.text, c.push.ensures.items, c.put.ensures, c.new-sheet.ensures) (simp append_assoc)
