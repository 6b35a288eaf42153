use mathlib.Core.Path.{sym, ◌∙◌}
use native.Mathlib.Omega.{arith}
use Rattle.inputs.proofs.Tests.{sized_pass, square}
use Rattle.inputs.proofs.System.{sizes_last}
use Rattle.inputs.proofs.internal.sizes.Goals as goal

pub overflow_mul-n : goal.overflow_mul-n
overflow_mul-n c = let k = sized_pass c.args.n (sym c.size.ensures ∙ c.in_ok-size.was) in omega (arith, square _ k.1)

pub returns : goal.returns
returns c = c.lengths.ensures ∙ sizes_last _ _ (sym c.size.ensures ∙ c.in_ok-size.was)
