use mathlib.Core.Path.{◌≡◌, ap}
use native.Mathlib.Omega.{arith}
use lib.IntN.{ℤ, pos}
use lib.ListN.{set}
use mir.Syntax.{w64}
use mir.Val.{to_z}
use mir.ValLaws.{to_z-of_z}
use Rattle.forward.specs.Forward.{table}
use Rattle.forward.proofs.Pivot.{Serves}
use Rattle.forward.proofs.Forward.{took_none, took_row, row_serves}
use Rattle.forward.proofs.internal.pivot.pivot.Goals as goal
use Rattle.forward.proofs.internal.pivot.pivot.Goals.{In_ok-i}

-- the row that was chosen
serving : (c : In_ok-i) → Serves c.args.n c.args.k c.in_ok-i.i c.args.t.now
serving c = row_serves _ _ (table c.args.t.now c.args.taken.now) c.requires.1 c.requires.0 c.choose.ensures c.in_ok-i.was

pub returns-in_err-i : goal.returns-in_err-i
returns-in_err-i c =
    took_none _ _ (table c.args.t.now c.args.taken.now) c.requires.0.sound c.choose.ensures c.in_err-i.was c.from_residual.ensures.1

pub swap-requires : goal.swap-requires
swap-requires c = (c.requires.0, c.requires.1, (serving (goal.at.swap-requires c).In_ok-i).below)

pub overflow_cast-taken : goal.overflow_cast-taken
overflow_cast-taken c = omega (arith, (serving (goal.at.overflow_cast-taken c).In_ok-i).below, c.requires.0.few)

pub returns : goal.returns
returns c =
    let s = serving (goal.at.returns c).In_ok-i in
    let small : to_z w64 c.in_ok-i.i ≡ pos c.in_ok-i.i = to_z-of_z w64 (pos c.in_ok-i.i) (record { sfits = omega (arith, s.below, c.requires.0.few) }) in
    took_row _ _ (table c.args.t.now c.args.taken.now) c.requires.1 c.requires.0 c.choose.ensures c.in_ok-i.was c.swap.ensures (ap (λ (z : ℤ). set c.args.taken.now c.args.k z) small) c.read.ensures
