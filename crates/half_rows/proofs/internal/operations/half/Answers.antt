use Rattle.std.proofs.lemmas.Result.{err_from_is_err_and}
use Rattle.half_rows.proofs.Ends.{pass_stops, pass_ends}
use Rattle.half_rows.proofs.internal.operations.half.Goals as goal

pub returns-in_err-pass_on : goal.returns-in_err-pass_on
returns-in_err-pass_on c =
    let p = err_from_is_err_and c.from_residual.result c.from_residual.ensures.1 in
    rw (p.1, p.2) (pass_stops _ _ _ _ _ c.pass_on.ensures (c.in_err-pass_on.was {u = tt}))

pub returns : goal.returns
returns c = pass_ends _ _ _ _ _ c.pass_on.ensures (c.in_ok-pass_on.was {u = tt}) c.commit.ensures
