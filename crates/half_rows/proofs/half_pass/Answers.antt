use mathlib.Core.Path.{sym, ◌∙◌}
use Rattle.std.proofs.lemmas.Result.{err_from_is_err_and}
use Rattle.half_rows.proofs.State.{other_turn, same_turn}
use Rattle.half_rows.proofs.Pass.{not_due}
use Rattle.std.specs.Array.{IsWholeChunk}
use Rattle.half_rows.proofs.Calls.{size_short, pass_none, pass_late, pass_goes}
use Rattle.half_rows.proofs.half_pass.Goals as goal
use Rattle.half_rows.proofs.half_pass.Goals.{In_ok-state}

-- the state as an array
whole : (c : In_ok-state) → IsWholeChunk c.args.state.now c.in_ok-state.state.now 2_434
whole c = rw (c.in_ok-state.ensures {u = tt}).ok_part at c.as_mut_array.ensures.cases

pub returns-in_err-state : goal.returns-in_err-state
returns-in_err-state c =
    let p = err_from_is_err_and c.from_residual.result c.from_residual.ensures.1 in
    let q = c.in_err-state.ensures {u = tt} in
    rw (p.1, p.2, not_due c.as_mut_array.result q.ok_part q.value) (pass_none _ _ (size_short _ (rw q.ok_part at c.as_mut_array.ensures.cases)))

pub returns-in_err-n : goal.returns-in_err-n
returns-in_err-n c =
    let p = err_from_is_err_and c.from_residual-in_err-n.result c.from_residual-in_err-n.ensures.1 in
    let q = c.in_err-n.ensures {u = tt} in
    let w = whole (goal.at.returns-in_err-n c).In_ok-state in
    rw (p.1, p.2, not_due c.size.result q.ok_part q.value, ← w.same) (pass_none _ _ (rw q.ok_part at c.size.ensures))

pub returns-then-ne : goal.returns-then-ne
returns-then-ne c =
    let w = whole (goal.at.returns-then-ne c).In_ok-state in
    let s = rw (c.in_ok-n.ensures {u = tt}).ok_part at c.size.ensures in
    rw (← w.same) (pass_late _ _ s.0 s.1 (other_turn _ _ (sym c.ne.ensures ∙ c.if-ne.true) c.turn.ensures))

pub returns : goal.returns
returns c =
    let w = whole (goal.at.returns c).In_ok-state in
    let s = rw (c.in_ok-n.ensures {u = tt}).ok_part at c.size.ensures in
    rw (← w.same) (pass_goes _ _ s.0 s.1 (same_turn _ _ (sym c.ne.ensures ∙ c.if-ne.false) c.turn.ensures) c.half.ensures)
