use borrow.Author.Rules.{rules}
use Rattle.balance.proofs.Reading.{more_taken, more_consumed}
use Rattle.balance.proofs.read_input.Goals as goal

pub loop-done-preserved : goal.loop-done-preserved
loop-done-preserved g c =
    let l = c.loop-done in
    (search rules, rw (more_taken l.done c.in_ok-more.more l.buf c.read.new.buf _ l.invariant.0 (search rules)) (more_consumed _ _ _ _ _ l.invariant.1 c.in_ok-more.ensures.bytes.0))
