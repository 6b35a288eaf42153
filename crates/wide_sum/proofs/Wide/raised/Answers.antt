use Rattle.std.proofs.Common.{refl, arith}
use Rattle.wide_sum.proofs.Carry.{raised_carry, raised_none}
use Rattle.wide_sum.proofs.Wide.raised.Goals as goal

pub returns-then-low-p : goal.returns-then-low-p
returns-then-low-p c = raised_carry c.requires (omega arith) (omega arith) refl (omega arith)

pub returns : goal.returns
returns c = raised_none c.requires (omega arith) (omega arith) refl (omega arith)
