use mathlib.Core.Path.{◌∙◌}
use Rattle.inputs.proofs.Tests.{lengths_end, lengths_wrong, lengths_right}
use Rattle.inputs.proofs.internal.lengths.Goals as goal

pub returns-then-s : goal.returns-then-s
returns-then-s c = lengths_wrong _ _ _ c.loop-s-test.true c.if-s.true ∙ c.loop-s.invariant

pub loop-s-preserved : goal.loop-s-preserved
loop-s-preserved c = lengths_right _ _ _ c.loop-s-test.true c.if-s.false ∙ c.loop-s.invariant

pub returns : goal.returns
returns c = lengths_end _ _ c.loop-s-test.false ∙ c.loop-s.invariant
