use mathlib.Core.Path.{sym, ap, ◌∙◌}
use Rattle.interval.specs.Interval.{contains_zero}
use Rattle.forward.proofs.Pivot.{search_end, search_go, search_found, search_whole}
use Rattle.forward.proofs.internal.pivot.choose.Goals as goal

pub returns-then-not-contains_zero : goal.returns-then-not-contains_zero
returns-then-not-contains_zero c =
    sym (search_whole _ _ _ _ (c.loop-i.invariant ∙ search_found _ _ _ _ c.loop-i-test.true (ap contains_zero (sym c.read-v.ensures) ∙ sym c.contains_zero.ensures ∙ c.if-not-contains_zero.true)))

pub loop-i-preserved : goal.loop-i-preserved
loop-i-preserved c =
    c.loop-i.invariant ∙ search_go _ _ _ _ c.loop-i-test.true (ap contains_zero (sym c.read-v.ensures) ∙ sym c.contains_zero.ensures ∙ c.if-not-contains_zero.false)

pub returns : goal.returns
returns c = sym (search_whole _ _ _ _ (c.loop-i.invariant ∙ search_end _ _ _ _ c.loop-i-test.false))
