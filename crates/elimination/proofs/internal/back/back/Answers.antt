use mathlib.Core.Path.{sym, ◌∙◌}
use Rattle.forward.proofs.Step.{on_ok, on_err, ran_err}
use Rattle.elimination.proofs.Back.{back_end, back_turn, pivots_solved}
use Rattle.elimination.proofs.internal.back.back.Goals as goal

pub returns-in_err-unknown : goal.returns-in_err-unknown
returns-in_err-unknown c =
    ran_err c.from_residual.ensures.1 (c.loop-i.invariant.2 ∙ on_err (back_turn _ _ _ c.loop-i-test.true c.unknown.ensures.ran) c.in_err-unknown.was) c.unknown.ensures.ran.sound

pub loop-i-preserved : goal.loop-i-preserved
loop-i-preserved c =
    let v = c.loop-i.invariant in (
      c.unknown.ensures.ran.sound,
      pivots_solved _ _ _ v.1 c.unknown.ensures.ran c.unknown.ensures.kept,
      v.2 ∙ on_ok (back_turn _ _ _ c.loop-i-test.true c.unknown.ensures.ran) c.in_ok-unknown.was,
    )

pub returns : goal.returns
returns c =
    let v = c.loop-i.invariant in
    record { is = sym (v.2 ∙ back_end _ _ _ c.loop-i-test.false); sound = v.0 }
