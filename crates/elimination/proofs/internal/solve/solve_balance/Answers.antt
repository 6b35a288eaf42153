use Rattle.inputs.proofs.System.{ready}
use Rattle.elimination.proofs.Call.{copied_is, copied_fits, copied_working}
use Rattle.elimination.proofs.internal.solve.solve_balance.Goals as goal

pub copy_in-requires : goal.copy_in-requires
copy_in-requires c = copied_fits _ _ (ready _ _ c.requires)

pub solve_formed-requires : goal.solve_formed-requires
solve_formed-requires c =
    let r = ready _ _ c.requires in
    (rw (copied_is c.args.n c.args.b_matrix.now c.args.b.now c.copy_in.ensures) (copied_working _ _ r), r.fitting.box)

pub returns : goal.returns
returns c = rw (copied_is c.args.n c.args.b_matrix.now c.args.b.now c.copy_in.ensures) at c.solve_formed.ensures
