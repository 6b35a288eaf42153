use mathlib.Core.Path.{sym, ◌∙◌}
use Rattle.forward.proofs.Formed.{formed_row_end, formed_row_turn}
use Rattle.forward.proofs.Step.{on_ok, on_err, ran_err}
use Rattle.forward.proofs.internal.formed.formed_row.Goals as goal

pub returns-in_err-formed_entry : goal.returns-in_err-formed_entry
returns-in_err-formed_entry c =
    let e = c.formed_entry.ensures in
    ran_err c.from_residual.ensures.1 (c.loop-j.invariant.1 ∙ on_err (formed_row_turn _ _ _ _ c.loop-j-test.true e) c.in_err-formed_entry.was) e.sound

pub loop-j-preserved : goal.loop-j-preserved
loop-j-preserved c =
    let v = c.loop-j.invariant in
    let e = c.formed_entry.ensures in
    (e.sound, v.1 ∙ on_ok (formed_row_turn _ _ _ _ c.loop-j-test.true e) c.in_ok-formed_entry.was)

pub returns : goal.returns
returns c =
    let v = c.loop-j.invariant in
    record { is = sym (v.1 ∙ formed_row_end _ _ _ _ c.loop-j-test.false); sound = v.0 }
