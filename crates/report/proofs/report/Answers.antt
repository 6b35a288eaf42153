use mathlib.Core.Path.{◌≡◌, sym, ap, ◌∙◌}
use native.Mathlib.Omega.{arith}
use Rattle.std.specs.Prelude.{Ok}
use Rattle.outcome.proofs.Run.{carried}
use Rattle.text.specs.Code.{reading_is}
use Rattle.text.proofs.Head.{stops}
use Rattle.report.specs.Call.{answer_of, room}
use Rattle.report.proofs.Call.{room_long, report_faulty, report_short, report_solved}
use Rattle.report.proofs.report.Goals as goal
use Rattle.report.proofs.report.Goals.{In_ok-room}

roomy : (c : In_ok-room) → room c.args.out.now ≡ Ok tt
roomy c = sym c.room.ensures.answer ∙ c.in_ok-room.was

pub returns-in_err-h : goal.returns-in_err-h
returns-in_err-h c =
    ap (λ r. answer_of r c.args.out.now) (carried _ _ c.from_residual.ensures.1) ∙ report_faulty _ _ (sym c.read_text.ensures.t_after ∙ ap (λ r. reading_is c.args.text.now r c.read_text.new.t) c.in_err-h.was)

pub returns-in_err-room : goal.returns-in_err-room
returns-in_err-room c =
    ap (λ r. answer_of r c.args.out.now) (carried _ _ c.from_residual-in_err-room.ensures.1)
    ∙ report_short _ _ (sym c.in_ok-h.ensures.t_after) (sym c.room.ensures.answer ∙ c.in_err-room.was)

pub put_balance-requires-clause-in_bounds : goal.put_balance-requires-clause-in_bounds
put_balance-requires-clause-in_bounds c =
    let w = c.in_ok-h.ensures.fits in
    (omega (arith, room_long _ (roomy (goal.at.put_balance-requires-clause-in_bounds c).In_ok-room)), omega (arith, stops w, w.short))

pub returns : goal.returns
returns c =
    c.put_balance.ensures ∙ report_solved _ _ (sym c.in_ok-h.ensures.t_after) (roomy (goal.at.returns c).In_ok-room)
