use mathlib.Core.Path.{sym, ◌∙◌}
use native.Mathlib.Omega.{arith}
use lib.ListN.{length}
use Rattle.inputs.specs.System.{system}
use Rattle.inputs.proofs.Tests.{square}
use Rattle.inputs.proofs.System.{Fitting, sizes_fitting}
use Rattle.sweep.proofs.internal.tests.tested.Goals as goal
use Rattle.sweep.proofs.internal.tests.tested.Goals.{In_ok-sizes}

fits : (c : In_ok-sizes) → Fitting (system c.args.n c.args.matrix.now c.args.right.now) (length c.args.bounds.now)
fits c = sizes_fitting _ _ (sym c.sizes.ensures ∙ c.in_ok-sizes.was)

pub overflow_mul-n : goal.overflow_mul-n
overflow_mul-n c = omega (arith, square _ (fits (goal.at.overflow_mul-n c).In_ok-sizes).few)

pub intervals-requires : goal.intervals-requires
intervals-requires c =
    let f = fits (goal.at.intervals-requires c).In_ok-sizes in
    (omega (arith, f.matrix), omega (arith, square _ f.few))

pub overflow_mul-n-2 : goal.overflow_mul-n-2
overflow_mul-n-2 c = omega (arith, square _ (fits (goal.at.overflow_mul-n-2 c).In_ok-sizes).few)

pub intervals-requires-2 : goal.intervals-requires-2
intervals-requires-2 c =
    let f = fits (goal.at.intervals-requires-2 c).In_ok-sizes in
    (omega (arith, f.right), omega (arith, square _ f.few, f.few))

pub overflow_mul-n-3 : goal.overflow_mul-n-3
overflow_mul-n-3 c = omega (arith, square _ (fits (goal.at.overflow_mul-n-3 c).In_ok-sizes).few)

pub overflow_add-n : goal.overflow_add-n
overflow_add-n c =
    let f = fits (goal.at.overflow_add-n c).In_ok-sizes in
    omega (arith, square _ f.few, f.few)

pub intervals-requires-3 : goal.intervals-requires-3
intervals-requires-3 c =
    let f = fits (goal.at.intervals-requires-3 c).In_ok-sizes in
    (omega (arith, f.box), omega (arith, square _ f.few, f.few))
