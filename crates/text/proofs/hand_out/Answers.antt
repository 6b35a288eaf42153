use mathlib.Core.Path.{◌≡◌, sym, ap, ◌∙◌}
use Prim.Native.Nat.{◌*◌}
use native.Mathlib.Omega.{arith}
use lib.Seq.{length-take-le}
use Rattle.std.specs.Prelude.{Ok}
use Rattle.outcome.specs.Run.{counted}
use Rattle.outcome.proofs.Run.{carried}
use Rattle.inputs.proofs.Tests.{square}
use Rattle.text.specs.Call.{Lent, lent, room}
use Rattle.text.proofs.Handed.{handed_not, handed_out, roomy}
use Rattle.text.proofs.hand_out.Goals as goal
use Rattle.text.proofs.hand_out.Goals.{In_ok-lengths}

-- the slices as they are lent, and that they passed the test
abbrev slices : In_ok-lengths → Lent
slices c = lent c.args.matrix.now c.args.right.now

passed : (c : In_ok-lengths) → room (slices c) ≡ Ok tt
passed c = sym c.lengths.ensures ∙ c.in_ok-lengths.was

pub returns-in_err-lengths : goal.returns-in_err-lengths
returns-in_err-lengths c =
    let l = lent c.args.matrix.now c.args.right.now in
    ap (λ r. counted r l) (carried _ _ c.from_residual.ensures.1) ∙ handed_not _ _ l (sym c.lengths.ensures ∙ c.in_err-lengths.was)

pub fill-requires : goal.fill-requires
fill-requires c =
    let p = (goal.at.fill-requires c).In_ok-lengths in
    omega (arith, square _ c.requires, length-take-le (2 * (c.args.n * c.args.n)) c.args.t.now (omega (arith, square _ c.requires)), roomy (slices p) (passed p))

pub fill-requires-2 : goal.fill-requires-2
fill-requires-2 c =
    let p = (goal.at.fill-requires-2 c).In_ok-lengths in
    omega (arith, roomy (slices p) (passed p))

pub returns : goal.returns
returns c =
    let p = (goal.at.returns c).In_ok-lengths in
    handed_out _ _ (slices p) (passed p) c.fill.ensures c.fill-2.ensures
