use mathlib.Core.Path.{sym, ◌∙◌}
use Rattle.std.proofs.lemmas.Result.{err_from_is_err_and}
use Rattle.half_rows.proofs.Renewed.{renew_end, renew_out, renew_turn}
use Rattle.half_rows.proofs.internal.narrow.Exchange.renew.Goals as goal

pub returns-in_err-renew_row : goal.returns-in_err-renew_row
returns-in_err-renew_row c =
    let p = err_from_is_err_and c.from_residual.result c.from_residual.ensures.1 in
    rw (p.1, p.2) (λ r. renew_out _ _ _ _ _ _ _ c.loop-i-test.true (c.in_err-renew_row.ensures {u = tt} r) ∙ sym (c.loop-i.invariant r))

pub loop-i-preserved : goal.loop-i-preserved
loop-i-preserved c = λ r. c.loop-i.invariant r ∙ renew_turn _ _ _ _ _ _ _ c.loop-i-test.true (c.in_ok-renew_row.ensures {u = tt} r)

pub returns : goal.returns
returns c = λ r. renew_end _ _ _ _ _ _ _ c.loop-i-test.false ∙ sym (c.loop-i.invariant r)
