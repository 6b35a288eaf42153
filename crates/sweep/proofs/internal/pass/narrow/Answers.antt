use mathlib.Core.Path.{refl, sym, ap, ◌∙◌}
use Rattle.interval.specs.Interval.{is_empty}
use Rattle.sweep.proofs.Ends.{differs_is}
use Rattle.sweep.proofs.internal.pass.narrow.Goals as goal

pub returns : goal.returns
returns g c =
    rw (c.write.ensures, c.ne.ensures, c.read-old.ensures, c.component-v.ensures)
    (sym (c.is_empty.ensures ∙ ap is_empty c.component-v.ensures) ∙ c.if-is_empty.false, differs_is _ _, refl)
