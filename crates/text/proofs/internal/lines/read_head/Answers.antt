use mathlib.Core.Path.{sym, ◌∙◌}
use Rattle.search.proofs.Answer.{FirstAt, first_at}
use Rattle.outcome.proofs.Run.{carried}
use Rattle.text.proofs.Head.{lost, heads_refused, head_long, head_unended, head_faulty, head_named}
use Rattle.text.proofs.internal.lines.read_head.Goals as goal
use Rattle.text.proofs.internal.lines.read_head.Goals.{In_ok-stop}

-- where line 1 ends
found : (c : In_ok-stop) → FirstAt c.args.text.now 0 10 c.in_ok-stop.stop
found c = first_at (c.first.ensures.value, c.first.ensures.within) c.in_ok-stop.ensures.ok_part

pub returns-then-text-gt-LONGEST : goal.returns-then-text-gt-LONGEST
returns-then-text-gt-LONGEST c = head_long _ c.if-text-gt-LONGEST.true

pub returns-in_err-stop : goal.returns-in_err-stop
returns-in_err-stop c =
    let n = c.in_err-stop.ensures.ok_part in
    heads_refused _ (carried _ _ c.from_residual.ensures.1) (lost n c.in_err-stop.ensures.value) (head_unended _ c.if-text-gt-LONGEST.false (sym c.first.ensures.value ∙ n))

pub returns-in_err-count : goal.returns-in_err-count
returns-in_err-count c =
    let n = c.in_err-count.ensures.ok_part in
    heads_refused _ (carried _ _ c.from_residual-in_err-count.ensures.1) (lost n c.in_err-count.ensures.value)
    (head_faulty _ c.if-text-gt-LONGEST.false (found (goal.at.returns-in_err-count c).In_ok-stop).is (sym c.read_names.ensures.value ∙ n))

pub returns : goal.returns
returns c =
    let f = found (goal.at.returns c).In_ok-stop in
    let n = c.in_ok-count.ensures.ok_part in
    head_named _ c.if-text-gt-LONGEST.false f.is (sym c.read_names.ensures.value ∙ n) (rw n at c.read_names.ensures.few) f.high
