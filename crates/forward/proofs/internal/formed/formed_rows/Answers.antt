use mathlib.Core.Path.{sym, ◌∙◌}
use Rattle.forward.proofs.Formed.{formed_rows_end, formed_rows_turn}
use Rattle.forward.proofs.Step.{on_ok, on_err, ran_err}
use Rattle.forward.proofs.internal.formed.formed_rows.Goals as goal

pub returns-in_err-formed_row : goal.returns-in_err-formed_row
returns-in_err-formed_row c =
    let e = c.formed_row.ensures in
    ran_err c.from_residual.ensures.1 (c.loop-i.invariant.1 ∙ on_err (formed_rows_turn _ _ _ c.loop-i-test.true e) c.in_err-formed_row.was) e.sound

pub loop-i-preserved : goal.loop-i-preserved
loop-i-preserved c =
    let v = c.loop-i.invariant in
    let e = c.formed_row.ensures in
    (e.sound, v.1 ∙ on_ok (formed_rows_turn _ _ _ c.loop-i-test.true e) c.in_ok-formed_row.was)

pub returns : goal.returns
returns c =
    let v = c.loop-i.invariant in
    record { is = sym (v.1 ∙ formed_rows_end _ _ _ c.loop-i-test.false); sound = v.0 }
