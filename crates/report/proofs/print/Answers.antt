use mathlib.Core.Path.{◌≡◌, sym, ap, ◌∙◌}
use Rattle.std.specs.Prelude.{Ok, Err}
use Rattle.outcome.specs.Run.{counted}
use Rattle.outcome.proofs.Run.{carried}
use Rattle.report.specs.Call.{answer_of, room}
use Rattle.report.proofs.Call.{ending_reached, not_reached, print_short, print_reached, print_refused}
use Rattle.report.proofs.print.Goals as goal
use Rattle.report.proofs.print.Goals.{In_ok-room}

roomy : (c : In_ok-room) → room c.args.out.now ≡ Ok tt
roomy c = sym c.room.ensures.answer ∙ c.in_ok-room.was

pub returns-in_err-room-clause-out_after : goal.returns-in_err-room-clause-out_after
returns-in_err-room-clause-out_after c =
    ap (λ r. counted r c.args.out.now) (carried _ _ c.from_residual.ensures.1) ∙ print_short _ _ (sym c.room.ensures.answer ∙ c.in_err-room.was)

pub returns-in-Ok : goal.returns-in-Ok
returns-in-Ok c =
    let w = c.in-Ok.w in
    let q = print_reached _ _ (roomy (goal.at.returns-in-Ok c).In_ok-room) (Ok w.ending) w.count c.report.new.out (ap (λ r. answer_of r c.report.new.out) (sym c.in-Ok.is) ∙ c.report.ensures) (ending_reached w.ending) in
    record { out_after = q.0; inside = q.1 }

pub returns-in-Err : goal.returns-in-Err
returns-in-Err c =
    let o = c.in-Err.o in
    let q = print_refused _ _ (roomy (goal.at.returns-in-Err c).In_ok-room) (Err o) 0 c.report.new.out (ap (λ r. answer_of r c.report.new.out) (sym c.in-Err.is) ∙ c.report.ensures) (not_reached o) c.refused.ensures.line c.hand_out.ensures.count c.hand_out.ensures.out_after in
    record { out_after = q.0; inside = q.1 }
