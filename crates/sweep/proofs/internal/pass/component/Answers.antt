use mathlib.Core.Path.{◌≡◌, ap₂, ◌∙◌}
use native.Mathlib.Omega.{arith}
use Rattle.interval.specs.Interval.{intersection}
use Rattle.inputs.specs.Place.{at}
use Rattle.sweep.specs.Code.{Ready}
use Rattle.sweep.proofs.Pass.{component_is, component_fits}
use Rattle.sweep.proofs.internal.pass.component.Goals as goal
use Rattle.sweep.proofs.internal.pass.component.Goals.{Start, After-read-b}

sound : (g : _) (c : Start g) → let s = g.B.Balance.system c.args.balance.now in Ready s.size s.matrix s.right c.args.x.now
sound g c = g.met.B.Balance.all_sound _ _ c.requires.ready

right_is : (g : _) (c : After-read-b g) → c.read-b.result ≡ at (g.B.Balance.system c.args.balance.now).right c.args.i
right_is g c = rw c.right.ensures at c.read-b.ensures

pub read-b-requires : goal.read-b-requires
read-b-requires g c = rw c.right.ensures (omega (arith, (sound g (goal.at.read-b-requires g c).Start).right, c.requires.in_bounds))

pub sum-v-requires : goal.sum-v-requires
sum-v-requires g c =
    let b = goal.at.sum-v-requires g c in
    rw (right_is g b.After-read-b, c.row_sum-s.ensures) (component_fits (sound g b.Start) c.args.i)

pub returns : goal.returns
returns g c =
    let b = goal.at.returns g c in
    c.intersection.ensures ∙ ap₂ intersection c.sum-v.ensures (λ i. c.read-old.result) ∙
    component_is (sound g b.Start) c.args.i (right_is g b.After-read-b) c.row_sum-s.ensures c.read-old.ensures
