use mathlib.Core.Path.{◌≡◌, ap, ◌∙◌}
use Prim.Native.Nat.{◌*◌}
use native.Mathlib.Omega.{arith}
use Rattle.outcome.specs.Run.{returned}
use Rattle.outcome.proofs.Run.{carried}
use Rattle.text.specs.Code.{system_of}
use Rattle.report.specs.Call.{answer_of, calculation, solved, reported}
use Rattle.report.proofs.Call.{take_noughts, reported_ended, reported_refused}
use Rattle.report.proofs.internal.report.put_balance.Goals as goal
use Rattle.report.proofs.internal.report.put_balance.Goals.{After-calculate_from-s}

-- the calculation, from noughts
calculated : (c : After-calculate_from-s) → let s = c.calculate_from-s in returned s.result.outcome s.result.count s.new.bounds ≡ solved (system_of c.args.n c.args.t.now)
unfolding solved
calculated c =
    c.calculate_from-s.ensures ∙ ap (calculation (system_of c.args.n c.args.t.now)) (take_noughts (2 * c.args.n) 64 (omega (arith, c.requires.le_n.1)))

pub returns-in_err-ending : goal.returns-in_err-ending
returns-in_err-ending c =
    let a = c.args in
    let s = c.calculate_from-s in
    let e = rw c.in_err-ending.was at (calculated (goal.at.returns-in_err-ending c).After-calculate_from-s) in
    ap (λ r. answer_of r a.out.now) (carried _ _ c.from_residual.ensures.1)
    ∙ reported_refused a.names.now a.n a.out.now s.result.count s.new.bounds c.in_err-ending.field-0.0 ∙ ap (reported a.names.now a.n a.out.now) e

pub returns : goal.returns
returns c =
    let a = c.args in
    let s = c.calculate_from-s in
    let e = rw c.in_ok-ending.was at (calculated (goal.at.returns c).After-calculate_from-s) in
    reported_ended a.names.now a.n a.out.now s.result.count s.new.bounds c.in_ok-ending.ending c.calculated-sheet.ensures c.hand_out-count.ensures.count c.hand_out-count.ensures.out_after
    ∙ ap (reported a.names.now a.n a.out.now) e
