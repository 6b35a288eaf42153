use mathlib.Core.Path.{◌≡◌, sym, ap₂, ◌∙◌}
use mir.Syntax.{w64}
use mir.Val.{to_z, of_z}
use mir.ValLaws.{to_z-of_z}
use Rattle.std.proofs.lemmas.Result.{err_from_is_err_and}
use Rattle.interval.specs.Interval.{ends}
use Rattle.half_rows.proofs.Pass.{not_due}
use Rattle.std.specs.Array.{IsWholeChunk}
use Rattle.half_rows.proofs.Calls.{size_short, narrow_none, narrow_unturned, narrow_out, narrow_bad, narrow_goes}
use Rattle.half_rows.proofs.narrow.Goals as goal
use Rattle.half_rows.proofs.narrow.Goals.{In_ok-state, then-component-lt1-via-then-component-lt1, then-component-lt1-via-else-component-lt1+then-n-component}
use Rattle.half_rows.proofs.narrow.Goals.{Start}

-- the weighed interval, as it is read
weighed : (c : Start) → ends (to_z w64 (of_z w64 c.args.lo)) (to_z w64 (of_z w64 c.args.hi)) ≡ ends c.args.lo c.args.hi
weighed c = ap₂ (λ l h. ends l h) (to_z-of_z w64 _ c.ranges.lo) (to_z-of_z w64 _ c.ranges.hi)

-- the state as an array
whole : (c : In_ok-state) → IsWholeChunk c.args.state.now c.in_ok-state.state.now 2_434
whole c = rw (c.in_ok-state.ensures {u = tt}).ok_part at c.as_mut_array.ensures.cases

pub returns-in_err-state : goal.returns-in_err-state
returns-in_err-state c =
    let p = err_from_is_err_and c.from_residual.result c.from_residual.ensures.1 in
    let q = c.in_err-state.ensures {u = tt} in
    rw (p.1, p.2, not_due c.as_mut_array.result q.ok_part q.value) (narrow_none _ _ _ (size_short _ (rw q.ok_part at c.as_mut_array.ensures.cases)))

pub returns-in_err-n : goal.returns-in_err-n
returns-in_err-n c =
    let w = whole (goal.at.returns-in_err-n c).In_ok-state in
    let p = err_from_is_err_and c.from_residual-in_err-n.result c.from_residual-in_err-n.ensures.1 in
    let q = c.in_err-n.ensures {u = tt} in
    rw (p.1, p.2, not_due c.size.result q.ok_part q.value, ← w.same) (narrow_none _ _ _ (rw q.ok_part at c.size.ensures))

pub returns-in_err-way : goal.returns-in_err-way
returns-in_err-way c =
    let w = whole (goal.at.returns-in_err-way c).In_ok-state in
    let p = err_from_is_err_and c.from_residual-in_err-way.result c.from_residual-in_err-way.ensures.1 in
    let q = c.in_err-way.ensures {u = tt} in
    let s = rw (c.in_ok-n.ensures {u = tt}).ok_part at c.size.ensures in
    rw (p.1, p.2, not_due c.turn.result q.ok_part q.value, ← w.same) (narrow_unturned _ _ _ s.0 s.1 (rw q.ok_part at c.turn.ensures))

pub returns-then-component-lt1 : goal.returns-then-component-lt1
returns-then-component-lt1 c =
    let w = whole (goal.at.returns-then-component-lt1 c).In_ok-state in
    let s = rw (c.in_ok-n.ensures {u = tt}).ok_part at c.size.ensures in
    let e : c.then-component-lt1.state ≡ c.in_ok-state.state.now =
    elim c.then-component-lt1.branch [
      | then-component-lt1-via-then-component-lt1 b ↦ b.state-is
      | then-component-lt1-via-else-component-lt1+then-n-component b ↦ b.state-is
    ] in
    rw (e, ← w.same) (narrow_out _ _ _ s.0 s.1 _ (rw (c.in_ok-way.ensures {u = tt}).ok_part at c.turn.ensures) c.then-component-lt1.either)

pub returns-then-not-is_acceptable : goal.returns-then-not-is_acceptable
returns-then-not-is_acceptable c =
    let w = whole (goal.at.returns-then-not-is_acceptable c).In_ok-state in
    let s = rw (c.in_ok-n.ensures {u = tt}).ok_part at c.size.ensures in
    rw (← w.same) (narrow_bad _ _ _ s.0 s.1 _ (rw (c.in_ok-way.ensures {u = tt}).ok_part at c.turn.ensures) c.if-component-lt1.false c.if-n-component.false
    (weighed (goal.at.returns-then-not-is_acceptable c).Start) (sym c.is_acceptable.ensures ∙ c.if-not-is_acceptable.true))

pub returns : goal.returns
returns c =
    let w = whole (goal.at.returns c).In_ok-state in
    let s = rw (c.in_ok-n.ensures {u = tt}).ok_part at c.size.ensures in
    rw (← w.same) (narrow_goes _ _ _ s.0 s.1 _ (rw (c.in_ok-way.ensures {u = tt}).ok_part at c.turn.ensures) c.if-component-lt1.false c.if-n-component.false
    (weighed (goal.at.returns c).Start) (sym c.is_acceptable.ensures ∙ c.if-not-is_acceptable.false) c.narrow.ensures)
