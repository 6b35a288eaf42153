use mathlib.Core.Path.{sym}
use Rattle.std.proofs.lemmas.Result.{err_from_is_err_and}
use Rattle.inputs.specs.System.{system}
use Rattle.sweep.proofs.Tests.{ready}
use Rattle.half_rows.proofs.Pass.{not_due}
use Rattle.std.specs.Array.{IsWholeChunk}
use Rattle.half_rows.proofs.Calls.{load_short, load_refused, load_done}
use Rattle.half_rows.proofs.load.Goals as goal
use Rattle.half_rows.proofs.load.Goals.{In_ok-state}

-- the state as an array
whole : (c : In_ok-state) → IsWholeChunk c.args.state.now c.in_ok-state.state.now 2_434
whole c = rw (c.in_ok-state.ensures {u = tt}).ok_part at c.as_mut_array.ensures.cases

pub returns-in_err-state : goal.returns-in_err-state
returns-in_err-state c =
    let p = err_from_is_err_and c.from_residual.result c.from_residual.ensures.1 in
    let q = c.in_err-state.ensures {u = tt} in
    rw (p.1, p.2, not_due c.as_mut_array.result q.ok_part q.value) (load_short _ _ _ (rw q.ok_part at c.as_mut_array.ensures.cases))

pub returns-in_err-tested : goal.returns-in_err-tested
returns-in_err-tested c =
    let p = err_from_is_err_and c.from_residual-in_err-tested.result c.from_residual-in_err-tested.ensures.1 in
    let w = whole (goal.at.returns-in_err-tested c).In_ok-state in
    rw (p.1, p.2, w.same) (load_refused _ _ _ w.long (sym (c.in_err-tested.ensures {u = tt})))

pub invariant_of-load : goal.invariant_of-load
invariant_of-load c = record { ready = ready (system c.args.n c.args.b_matrix.now c.args.b.now) 1 _ (sym (c.in_ok-tested.ensures {u = tt})) }

pub returns : goal.returns
returns c = load_done _ _ _ (whole (goal.at.returns c).In_ok-state).long (sym (c.in_ok-tested.ensures {u = tt})) c.load_into.ensures
