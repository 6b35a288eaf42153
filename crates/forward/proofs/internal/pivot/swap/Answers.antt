use mathlib.Core.Path.{sym, ◌∙◌}
use Rattle.forward.proofs.Swap.{swapped_self, columns_turn, swapped_by}
use Rattle.forward.proofs.internal.pivot.swap.Goals as goal

pub returns-then-i-k : goal.returns-then-i-k
returns-then-i-k c = rw c.if-i-k.true (sym (swapped_self _ _ _))

pub loop-j-preserved : goal.loop-j-preserved
loop-j-preserved c =
    c.loop-j.invariant ∙ columns_turn _ _ _ _ _ c.loop-j-test.true c.exchange.ensures

pub returns : goal.returns
returns c =
    swapped_by _ _ _ _ _ _ c.loop-j-test.false c.loop-j.invariant c.exchange-2.ensures
