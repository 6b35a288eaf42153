use mathlib.Core.Path.{◌≡◌, sym, ◌∙◌}
use Prim.Native.Nat.{◌+◌, ◌-◌}
use mathlib.Core.Bool.{true, false}
use Rattle.outcome.specs.declared.Refusal.{Refusal}
use Rattle.interval.specs.Interval.{acceptable, contains_zero}
use Rattle.outcome.specs.Run.{refused}
use Rattle.forward.specs.Pivot.{lowest_row}
use Rattle.forward.specs.Forward.{table, rows, forward}
use Rattle.forward.proofs.Step.{working_after, on_ok, on_err}
use Rattle.forward.proofs.Forward
use Rattle.forward.proofs.internal.forward.forward.Goals as goal
use Rattle.forward.proofs.internal.forward.forward.Goals.{In-Ok, In-Ok-factor}

-- the pivot is an interval without 0, and a row's factor an interval
pivot_good : (c : In-Ok) → (acceptable c.in-Ok.p ≡ true) × (contains_zero c.in-Ok.p ≡ false)
pivot_good c = let q = c.pivot.ensures.pivot _ c.in-Ok.is in (rw q.0 (c.pivot.ensures.sound.each _), q.1)

factor_good : (c : In-Ok-factor) → (acceptable c.in-Ok.p ≡ true) × (contains_zero c.in-Ok.p ≡ false) → acceptable c.in-Ok-factor.m ≡ true
factor_good c g =
    Forward.factor_accepted _ _ _ _ _ _ _ _ c.factor.ensures c.in-Ok-factor.is (c.loop-i.invariant.0.sound.each _) g.0 g.1

-- a refusal of a step is the refusal of the whole
stop : (c : In-Ok) {o : Refusal} → let n = c.args.n in let k = c.pivots.k in rows n k c.in-Ok.p (n - (k + 1)) (k + 1) c.pivot.new.t ≡ refused o → forward lowest_row n (table c.args.t.now c.args.taken.now) ≡ refused o
stop c e = Forward.forward_from _ _ _ (c.pivots.invariant.1 ∙ Forward.pivots_stop _ _ _ c.pivots-test.true c.pivot.ensures c.in-Ok.is e)

pub returns-in-Err : goal.returns-in-Err
returns-in-Err c =
    record { is = sym (Forward.forward_from _ _ _ (c.pivots.invariant.1 ∙ Forward.pivots_no _ _ _ c.pivots-test.true c.pivot.ensures c.in-Err.is)); sound = c.pivot.ensures.sound }

pub factor-requires-clause-pivot_value : goal.factor-requires-clause-pivot_value
factor-requires-clause-pivot_value c = pivot_good (goal.at.factor-requires-clause-pivot_value c).In-Ok

pub returns-in-Err-factor : goal.returns-in-Err-factor
returns-in-Err-factor c =
    record { is = sym (stop (goal.at.returns-in-Err-factor c).In-Ok (c.loop-i.invariant.1 ∙ Forward.rows_no _ _ _ _ _ c.loop-i-test.true c.factor.ensures c.in-Err-factor.is)); sound = c.factor.ensures.sound }

pub entry-requires-clause-m_value : goal.entry-requires-clause-m_value
entry-requires-clause-m_value c =
    let a = goal.at.entry-requires-clause-m_value c in
    factor_good a.In-Ok-factor (pivot_good a.In-Ok)

pub returns-in-Err-entry : goal.returns-in-Err-entry
returns-in-Err-entry c =
    record { is = sym (stop (goal.at.returns-in-Err-entry c).In-Ok (c.loop-i.invariant.1 ∙ Forward.rows_stop _ _ _ _ _ c.loop-i-test.true c.factor.ensures c.in-Ok-factor.is (c.loop-j.invariant.1 ∙ on_err (Forward.columns_turn _ _ _ _ _ _ c.loop-j-test.true c.entry.ensures) c.in-Err-entry.is))); sound = c.entry.ensures.sound }

pub loop-j-preserved : goal.loop-j-preserved
loop-j-preserved c = (
  working_after c.loop-j.invariant.0 c.entry.auto.t c.entry.ensures.sound,
  c.loop-j.invariant.1 ∙ on_ok (Forward.columns_turn _ _ _ _ _ _ c.loop-j-test.true c.entry.ensures) c.in_default.is,
  c.loop-j.invariant.2,
)

pub right_side-requires-clause-m_value : goal.right_side-requires-clause-m_value
right_side-requires-clause-m_value c =
    let a = goal.at.right_side-requires-clause-m_value c in
    factor_good a.In-Ok-factor (pivot_good a.In-Ok)

pub returns-in-Err-right_side : goal.returns-in-Err-right_side
returns-in-Err-right_side c =
    record { is = sym (stop (goal.at.returns-in-Err-right_side c).In-Ok (c.loop-i.invariant.1 ∙ on_err (Forward.rows_turn _ _ _ _ _ c.loop-i-test.true c.factor.ensures c.in-Ok-factor.is (c.loop-j.invariant.1 ∙ Forward.columns_end _ _ _ _ _ _ c.loop-j-test.false) c.right_side.ensures.ran) c.in-Err-right_side.is)); sound = c.right_side.ensures.ran.sound }

pub loop-i-preserved : goal.loop-i-preserved
loop-i-preserved c = (
  working_after c.loop-j.invariant.0 c.right_side.auto.t c.right_side.ensures.ran.sound,
  c.loop-i.invariant.1 ∙ on_ok (Forward.rows_turn _ _ _ _ _ c.loop-i-test.true c.factor.ensures c.in-Ok-factor.is (c.loop-j.invariant.1 ∙ Forward.columns_end _ _ _ _ _ _ c.loop-j-test.false) c.right_side.ensures.ran) c.in_default-right_side.is,
  c.loop-j.invariant.2,
)

pub pivots-preserved : goal.pivots-preserved
pivots-preserved c =
    (c.loop-i.invariant.0, c.pivots.invariant.1 ∙ Forward.pivots_go _ _ _ c.pivots-test.true c.pivot.ensures c.in-Ok.is (c.loop-i.invariant.1 ∙ Forward.rows_end _ _ _ _ _ c.loop-i-test.false), c.loop-i.invariant.2)

pub returns-after-pivots : goal.returns-after-pivots
returns-after-pivots c =
    record { is = rw c.pivots.invariant.2 (sym (Forward.forward_from _ _ _ (c.pivots.invariant.1 ∙ Forward.pivots_end _ _ _ c.pivots-test.false))); sound = c.pivots.invariant.0.sound }
