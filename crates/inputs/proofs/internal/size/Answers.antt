use Rattle.inputs.proofs.Tests.{sized_yes, sized_no}
use Rattle.inputs.proofs.internal.size.Goals as goal

pub returns-then-n-le32 : goal.returns-then-n-le32
returns-then-n-le32 c = sized_yes _ c.if-n-ge1.true c.if-n-le32.true

pub returns : goal.returns
returns c = sized_no _ c.else-n-ge1.either
