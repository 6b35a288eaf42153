use mathlib.Core.Path.{◌≡◌, sym, ap, ap₂, ◌∙◌}
use Prim.Native.Nat.{ℕ, ◌*◌}
use native.Mathlib.Omega.{arith}
use lib.ListN.{take, drop}
use Rattle.half_rows.specs.State.{box_of}
use Rattle.half_rows.specs.State.{sums_place}
use Rattle.half_rows.proofs.State.{sums_end}
use Rattle.half_rows.proofs.Shares.{part_long}
use Rattle.half_rows.proofs.Ends.{not_err_sound, box_ill, right_ill, pass_is}
use Rattle.half_rows.proofs.internal.operations.pass_on.Goals as goal
use Rattle.half_rows.proofs.internal.operations.pass_on.Goals.{After-copy_out, then-is_err-via-then-is_err, then-is_err-via-else-is_err+then-is_err-2}

-- the copy of the box
box : (c : After-copy_out) → c.copy_out.new.x ≡ box_of c.args.state.now c.args.n
box c = c.copy_out.ensures ∙ ap (λ (l : ℕ). take l (drop 2 c.args.state.now)) c.requires.1

pub copy_out-requires-2 : goal.copy_out-requires-2
copy_out-requires-2 c = omega (arith, sums_end)

pub returns-then-is_err : goal.returns-then-is_err
returns-then-is_err c =
    let x = box (goal.at.returns-then-is_err c).After-copy_out in
    elim c.then-is_err.branch [
      | then-is_err-via-then-is_err w ↦ box_ill _ _ _ x c.intervals.ensures (sym c.is_err.ensures.value ∙ w.if-is_err.true)
      | then-is_err-via-else-is_err+then-is_err-2 w ↦ right_ill _ _ _ x c.intervals.ensures (sym c.is_err.ensures.value ∙ w.if-is_err.false) w.intervals-else-is_err.ensures (sym w.is_err-else-is_err.ensures.value ∙ w.if-is_err-2.true)
    ]

pub overflow_add-pass-2 : goal.overflow_add-pass-2
overflow_add-pass-2 c = omega (arith, sums_end)

pub offset_bounds-state-kept : goal.offset_bounds-state-kept
offset_bounds-state-kept c = omega (arith, sums_end)

pub slice_bounds-pass-end-2 : goal.slice_bounds-pass-end-2
slice_bounds-pass-end-2 c = omega (arith, sums_end)

pub invariant_of-pass-clause-right_sound : goal.invariant_of-pass-clause-right_sound
invariant_of-pass-clause-right_sound c =
    not_err_sound _ c.args.n (part_long c.args.state.now 66 (2 * c.args.n) (omega arith)) c.intervals-else-is_err.ensures (sym c.is_err-else-is_err.ensures.value ∙ c.if-is_err-2.false)

pub run-requires : goal.run-requires
run-requires c =
    let l = c.copy_out.auto.x ∙ c.requires.1 in
    (record { long = l; sound = not_err_sound _ c.args.n l c.intervals.ensures (sym c.is_err.ensures.value ∙ c.if-is_err.false) }, c.copy_out-2.auto.x ∙ c.requires.2)

pub returns : goal.returns
returns c =
    pass_is _ _ _ (box (goal.at.returns c).After-copy_out) c.intervals.ensures (sym c.is_err.ensures.value ∙ c.if-is_err.false) c.intervals-else-is_err.ensures
    (sym c.is_err-else-is_err.ensures.value ∙ c.if-is_err-2.false)
    (c.copy_out-2.ensures ∙ ap₂ (λ (l p : ℕ). take l (drop p c.args.state.now)) c.requires.2 c.sums_place.ensures)
    (c.sums_place-kept.ensures ∙ ap sums_place c.other.ensures)
    c.run.ensures
