use Rattle.text.proofs.Number.{magnitude_out, magnitude_padded, magnitude_digits}
use Rattle.text.proofs.internal.number.unsigned.Goals as goal

pub returns-then-s-lt1-clause-value : goal.returns-then-s-lt1-clause-value
returns-then-s-lt1-clause-value c = magnitude_out _ c.then-s-lt1.either

pub returns-then-s-ne1-clause-value : goal.returns-then-s-ne1-clause-value
returns-then-s-ne1-clause-value c = magnitude_padded _ c.if-s-lt1.false c.if-s-gt10.false c.if-s-eq48.true c.if-s-ne1.true

pub returns-clause-value : goal.returns-clause-value
returns-clause-value c = rw c.all_digits.ensures.value (magnitude_digits _ c.if-s-lt1.false c.if-s-gt10.false c.else-s-eq48.either)
