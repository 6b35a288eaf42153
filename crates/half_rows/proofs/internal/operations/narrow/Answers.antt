use mathlib.Core.Path.{◌≡◌, sym, ap, ◌∙◌}
use borrow.Author.Rules.{rules}
use Rattle.interval.specs.Interval.{acceptable, is_empty}
use Rattle.inputs.specs.Place.{at}
use Rattle.sweep.proofs.Pass.{intersection_accepted}
use Rattle.half_rows.specs.State.{box_of}
use Rattle.half_rows.proofs.Ends.{narrow_ill, narrow_empty, narrow_goes}
use Rattle.half_rows.proofs.internal.operations.narrow.Goals as goal
use Rattle.half_rows.proofs.internal.operations.narrow.Goals.{After-read-old}

-- the component as it was, on the copy
was : (c : After-read-old) → let s = c.args in c.read-old.result ≡ at (box_of s.state.now s.n) s.v
was c =
    let e : c.copy_out.new.x ≡ box_of c.args.state.now c.args.n = search rules in
    c.read-old.ensures ∙ ap (λ X. at X c.args.v) e

pub returns-then-not-is_acceptable : goal.returns-then-not-is_acceptable
returns-then-not-is_acceptable c = narrow_ill _ _ _ _ _ (was (goal.at.returns-then-not-is_acceptable c).After-read-old) (sym c.is_acceptable.ensures ∙ c.if-not-is_acceptable.true)

pub returns-then-is_empty : goal.returns-then-is_empty
returns-then-is_empty c =
    narrow_empty _ _ _ _ _ (was (goal.at.returns-then-is_empty c).After-read-old) (sym c.is_acceptable.ensures ∙ c.if-not-is_acceptable.false) c.intersection-new.ensures
    (sym c.is_empty.ensures ∙ c.if-is_empty.true)

pub narrow_to-requires-clause-v_value : goal.narrow_to-requires-clause-v_value
narrow_to-requires-clause-v_value c =
    let a = sym c.is_acceptable.ensures ∙ c.if-not-is_acceptable.false in
    let i = c.intersection-new.ensures in
    (ap acceptable (sym c.read-old.ensures) ∙ a, ap acceptable i ∙ intersection_accepted c.args.w _ a (ap is_empty (sym i) ∙ sym c.is_empty.ensures ∙ c.if-is_empty.false))

pub returns : goal.returns
returns c =
    narrow_goes _ _ _ _ _ (was (goal.at.returns c).After-read-old) (sym c.is_acceptable.ensures ∙ c.if-not-is_acceptable.false) c.intersection-new.ensures
    (sym c.is_empty.ensures ∙ c.if-is_empty.false) c.narrow_to.ensures
