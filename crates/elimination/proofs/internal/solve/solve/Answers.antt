use Rattle.inputs.proofs.System.{ready}
use Rattle.elimination.proofs.Call.{copied_is, copied_fits, copied_working}
use Rattle.elimination.proofs.internal.solve.solve.Goals as goal

pub copy_in-requires : goal.copy_in-requires
copy_in-requires c = copied_fits _ _ (ready _ _ c.requires)

pub finish-requires : goal.finish-requires
finish-requires c =
    let r = ready _ _ c.requires in
    (rw (copied_is c.args.n c.args.a.now c.args.f.now c.copy_in.ensures) (copied_working _ _ r), r.fitting.box)

pub returns : goal.returns
returns c = rw (copied_is c.args.n c.args.a.now c.args.f.now c.copy_in.ensures) at c.finish.ensures
