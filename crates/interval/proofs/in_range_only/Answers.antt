use mathlib.Core.Path.{sym, ◌∙◌}
use Rattle.interval.specs.Answer.{ranged}
use Rattle.interval.proofs.in_range_only.Goals as goal

pub returns-then-in_range : goal.returns-then-in_range
unfolding ranged
returns-then-in_range c = rw (sym c.in_range.ensures ∙ c.if-in_range.true)

pub returns : goal.returns
unfolding ranged
returns c = rw (sym c.in_range.ensures ∙ c.if-in_range.false)
