use Rattle.std.proofs.Common.{◌-◌, ap, ◌∙◌, rules, w64, nat_abs}
use mir.Val.{SFits}
use mir.ValLaws.{to_z-of_z}
use Rattle.inputs.specs.Place.{at}
use Rattle.transfers.proofs.internal.terms.component.Goals as goal

pub index-requires : goal.index-requires
index-requires c =
    let f : SFits w64 c.record-t.result.giver = search rules in
    rw (to_z-of_z w64 c.record-t.result.giver f, c.record-t.ensures) c.requires.k_in_bounds.1

pub returns : goal.returns
returns c =
    let f : SFits w64 c.record-t.result.giver = search rules in
    let j = c.index.ensures.0 ∙ ap (λ v. nat_abs v - 1) (to_z-of_z w64 c.record-t.result.giver f ∙ ap (λ t. t.giver) c.record-t.ensures) in
    c.read.ensures ∙ ap (at c.args.x.now) j
