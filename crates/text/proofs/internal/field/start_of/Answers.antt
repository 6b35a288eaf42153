use Rattle.search.proofs.Answer.{first_at}
use Rattle.text.proofs.Field.{reached_next, reached_found, reached_last}
use Rattle.text.proofs.internal.field.start_of.Goals as goal

pub unwrap-at-requires : goal.unwrap-at-requires
unwrap-at-requires c = rw c.first.ensures.value (reached_found _ _ _ _ c.loop-i.invariant c.loop-i-test.true)

pub loop-i-preserved : goal.loop-i-preserved
loop-i-preserved c =
    reached_next _ _ _ _ _ c.loop-i.invariant c.loop-i-test.true (first_at (c.first.ensures.value, c.first.ensures.within) c.unwrap-at.ensures)

pub returns-clause-value : goal.returns-clause-value
returns-clause-value c = (reached_last _ _ _ _ c.loop-i.invariant c.loop-i-test.false).0

pub returns-clause-line_value : goal.returns-clause-line_value
returns-clause-line_value c = (reached_last _ _ _ _ c.loop-i.invariant c.loop-i-test.false).1
