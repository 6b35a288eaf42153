use Rattle.text.proofs.Field.{Reached}
use Rattle.text.proofs.internal.field.start_of.Given as goal

abbrev pub invariant-loop-i : goal.invariant-loop-i
invariant-loop-i l = Reached l.line l.k l._i l.at
