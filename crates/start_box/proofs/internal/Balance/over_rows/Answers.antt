use mathlib.Core.Path.{◌≡◌, sym, ap, ap₂, ◌∙◌}
use native.Mathlib.Omega.{arith}
use borrow.Author.Rules.{rules}
use lib.IntN.{ℤ}
use mir.Syntax.{w64}
use mir.Val.{SFits, to_z, of_z}
use mir.ValLaws.{to_z-of_z}
use Rattle.outcome.specs.Run.{Run}
use Rattle.outcome.proofs.Run.{carried}
use Rattle.integer.proofs.Extremes.{max_is}
use Rattle.integer.specs.Extremes.{maximum}
use Rattle.integer.proofs.Machine.{plain}
use Rattle.start_box.specs.Sums.{row_sum}
use Rattle.start_box.specs.Reach.{coefficients, dividend, divided, over_rows}
use Rattle.start_box.specs.Code.{system_of, reach_of}
use Rattle.start_box.proofs.Sums.{below_each}
use Rattle.start_box.proofs.Reach.{row_above, rows_end, rows_stop, rows_go}
use Rattle.start_box.proofs.internal.Balance.over_rows.Goals.{After-row_totals-t}
use Rattle.start_box.proofs.internal.Balance.over_rows.Goals as goal

-- the sum of this row and its dividend, as the code has them
sum_is : (c : After-row_totals-t) → let s = system_of c.args.self.now in
    to_z w64 (of_z w64 c.row_totals-t.result.sum) ≡ row_sum (coefficients s) s.size c.loop-i.i
sum_is c = let fits : SFits w64 c.row_totals-t.result.sum = search rules in to_z-of_z w64 _ fits ∙ c.row_totals-t.ensures.sum

dividend_is : (c : After-row_totals-t) → let s = system_of c.args.self.now in
    to_z w64 (of_z w64 c.row_totals-t.result.dividend) ≡ dividend s c.loop-i.i
dividend_is c = let fits : SFits w64 c.row_totals-t.result.dividend = search rules in to_z-of_z w64 _ fits ∙ c.row_totals-t.ensures.dividend

pub divided-requires : goal.divided-requires
divided-requires c =
    let s = c.args.self.now in
    rw (sum_is (goal.at.divided-requires c).After-row_totals-t) (row_above s.square s.tested c.loop-i.i, below_each _ _ 0 c.requires c.loop-i.i (omega arith) (omega (arith, c.loop-i-test.true)))

-- the quotient of this row
row_is : (c : After-row_totals-t) {q : Run ℤ} → let s = system_of c.args.self.now in
    q ≡ divided (to_z w64 (of_z w64 c.row_totals-t.result.dividend)) (to_z w64 (of_z w64 c.row_totals-t.result.sum))
    → q ≡ divided (dividend s c.loop-i.i) (row_sum (coefficients s) s.size c.loop-i.i)
row_is c e = e ∙ ap₂ divided (dividend_is c) (sum_is c)

pub returns-in_err-q : goal.returns-in_err-q
returns-in_err-q c =
    ap reach_of (carried _ _ c.from_residual.ensures.1)
    ∙ sym (c.loop-i.invariant ∙ rows_stop _ _ _ c.loop-i-test.true (ap reach_of (sym c.in_err-q.was) ∙ row_is (goal.at.returns-in_err-q c).After-row_totals-t c.divided.ensures))

pub loop-i-preserved : goal.loop-i-preserved
loop-i-preserved c =
    let q = c.in_ok-q.q in
    let fits : SFits w64 q = search rules in
    let next : to_z w64 (of_z w64 c.max-most.result) ≡ maximum (to_z w64 c.loop-i.most-bits) q =
    plain _ c.max-most.type_inv ∙ c.max-most.ensures.value ∙ max_is _ _ ∙ ap (maximum (to_z w64 c.loop-i.most-bits)) (to_z-of_z w64 q fits) in
    c.loop-i.invariant ∙ rows_go _ _ _ c.loop-i-test.true (ap reach_of (sym c.in_ok-q.was) ∙ row_is (goal.at.loop-i-preserved c).After-row_totals-t c.divided.ensures) ∙ ap (over_rows _ _ _) (sym next)

pub returns : goal.returns
returns c = sym (c.loop-i.invariant ∙ rows_end _ _ _ c.loop-i-test.false)
