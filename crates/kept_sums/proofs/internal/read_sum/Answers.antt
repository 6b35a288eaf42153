use native.Mathlib.Omega.{arith}
use Rattle.wide_sum.specs.Wide.{held_both}
use Rattle.kept_sums.specs.Kept.{sum_at}
use Rattle.kept_sums.proofs.Words.{both_ready}
use Rattle.kept_sums.proofs.internal.read_sum.Goals as goal

pub read_end-requires : goal.read_end-requires
read_end-requires c = (omega arith, (both_ready _ _ c.requires.1).0)

pub read_end-requires-2 : goal.read_end-requires-2
read_end-requires-2 c = (omega arith, (both_ready _ _ c.requires.1).1)

pub returns : goal.returns
unfolding held_both sum_at
returns c =
    let l = c.read_end.ensures in
    let h = c.read_end-2.ensures in
    (λ i. record { lo = l.0 i; hi = h.0 i }, record { lo_near = l.1; hi_near = h.1 })
