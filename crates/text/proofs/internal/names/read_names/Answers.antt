use mathlib.Core.Path.{◌≡◌, sym, ap, ◌∙◌}
use mathlib.Core.Bool.{true}
use native.Mathlib.Omega.{arith}
use lib.ListN.{drop}
use Rattle.std.specs.Prelude.{None, is_some}
use Rattle.search.specs.First.{first_from}
use Rattle.search.proofs.Answer.{FirstAt, first_at}
use Rattle.text.specs.Code.{is_new}
use Rattle.text.proofs.Parts.{to_end, parts_at, parts_none}
use Rattle.text.proofs.Entered.{short_to, short_last, none_entered, too_many, refused, last_entered, next_entered}
use Rattle.text.proofs.internal.names.read_names.Goals as goal
use Rattle.text.proofs.internal.names.read_names.Goals.{In_default, In_ok-enter, In-Some}

-- where the search found the end of a part
found : (c : In-Some) → FirstAt c.args.line.now c.loop-n.at 59 c.in-Some.stop
found c = first_at (c.first.ensures.value, c.first.ensures.within) c.in-Some.is

-- the last part
ended : (c : In_default) → first_from c.args.line.now c.loop-n.at 59 ≡ None
ended c = sym c.first.ensures.value ∙ c.in_default.is

last : (c : In_ok-enter) → is_new c.loop-n.codes.items (drop c.loop-n.at c.args.line.now) ≡ true
last c = sym (rw to_end at c.enter.ensures.value) ∙ ap is_some c.in_ok-enter.was

pub loop-n-init : goal.loop-n-init
loop-n-init c = (omega arith, omega arith, rw c.new-codes.ensures (none_entered _))

pub returns-in_err-enter-clause-value : goal.returns-in_err-enter-clause-value
returns-in_err-enter-clause-value c =
    let n = sym (rw to_end at c.enter.ensures.value) ∙ ap is_some c.in_err-enter.was in
    c.from_residual.ensures ∙ sym (refused c.loop-n.invariant.2 (parts_none _ _ _ (ended (goal.at.returns-in_err-enter-clause-value c).In_default)) n)

pub returns-in_default-clause-value : goal.returns-in_default-clause-value
returns-in_default-clause-value c =
    sym (last_entered c.loop-n.invariant.2 _ (last c) (parts_none _ _ _ (ended (goal.at.returns-in_default-clause-value c).In_default)) c.loop-n-test.true)

pub returns-in_default-clause-few : goal.returns-in_default-clause-few
returns-in_default-clause-few c =
    let a = c.loop-n in
    (omega arith, omega arith, omega (arith, short_last a.codes.items c.args.line.now a.at (last c)))

pub returns-in_err-enter-2-clause-value : goal.returns-in_err-enter-2-clause-value
returns-in_err-enter-2-clause-value c =
    let n = sym c.enter-in-loop-n.ensures.value ∙ ap is_some c.in_err-enter-2.was in
    c.from_residual-in_err-enter-2.ensures ∙ sym (refused c.loop-n.invariant.2 (parts_at _ _ _ _ (found (goal.at.returns-in_err-enter-2-clause-value c).In-Some).is) n)

pub loop-n-preserved : goal.loop-n-preserved
loop-n-preserved c =
    let f = found (goal.at.loop-n-preserved c).In-Some in
    let h = sym c.enter-in-loop-n.ensures.value ∙ ap is_some c.in_ok-enter-2.was in (
      omega (arith, f),
      omega (arith, short_to _ _ _ _ f.high h),
      next_entered c.loop-n.invariant.2 _ h (parts_at _ _ _ _ f.is) c.in_ok-enter-2.ensures.codes_after,
    )

pub returns-clause-value : goal.returns-clause-value
returns-clause-value c = sym (too_many c.loop-n.invariant.2 c.loop-n-test.false)
