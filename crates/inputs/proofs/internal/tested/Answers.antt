use mathlib.Core.Path.{◌≡◌, sym, ◌∙◌}
use native.Mathlib.Omega.{arith}
use Rattle.std.specs.Prelude.{Ok}
use Rattle.outcome.proofs.Run.{carried}
use Rattle.inputs.specs.Tests.{sizes}
use Rattle.inputs.specs.System.{system, slices}
use Rattle.inputs.proofs.Tests.{square}
use Rattle.inputs.proofs.System.{Fitting, sizes_fitting, tests_sizes, tests_matrix, tests_right}
use Rattle.inputs.proofs.internal.tested.Goals as goal
use Rattle.inputs.proofs.internal.tested.Goals.{In_ok-sizes}

sized : (c : In_ok-sizes) → sizes c.args.n (slices (system c.args.n c.args.matrix.now c.args.right.now) c.args.bounds) ≡ Ok tt
sized c = sym c.sizes.ensures ∙ c.in_ok-sizes.was

fits : (c : In_ok-sizes) → Fitting (system c.args.n c.args.matrix.now c.args.right.now) c.args.bounds
fits c = sizes_fitting _ _ (sized c)

pub returns-in_err-sizes : goal.returns-in_err-sizes
returns-in_err-sizes c =
    carried _ _ c.from_residual.ensures.1 ∙ tests_sizes (system c.args.n c.args.matrix.now c.args.right.now) c.args.bounds (sym c.sizes.ensures ∙ c.in_err-sizes.was)

pub overflow_mul-n : goal.overflow_mul-n
overflow_mul-n c = omega (arith, square _ (fits c).few)

pub intervals-requires : goal.intervals-requires
intervals-requires c = (omega (arith, (fits c).matrix), omega (arith, square _ (fits c).few))

pub returns-in_err-intervals : goal.returns-in_err-intervals
returns-in_err-intervals c =
    carried _ _ c.from_residual-in_err-intervals.ensures.1 ∙ tests_matrix _ _ (sized (goal.at.returns-in_err-intervals c).In_ok-sizes) (sym c.intervals.ensures ∙ c.in_err-intervals.was)

pub overflow_mul-n-2 : goal.overflow_mul-n-2
overflow_mul-n-2 c = omega (arith, square _ (fits (goal.at.overflow_mul-n-2 c).In_ok-sizes).few)

pub intervals-requires-2 : goal.intervals-requires-2
intervals-requires-2 c =
    let f = fits (goal.at.intervals-requires-2 c).In_ok-sizes in
    (omega (arith, f.right), omega (arith, square _ f.few, f.few))

pub returns : goal.returns
returns c =
    c.intervals-2.ensures ∙ tests_right _ _ (sized (goal.at.returns c).In_ok-sizes) (sym c.intervals.ensures ∙ c.in_ok-intervals.was)
