use mathlib.Core.Path.{◌≡◌, sym, ap, ◌∙◌}
use mathlib.Core.List.{List}
use Prim.Native.Nat.{◌+◌, ◌-◌, ◌*◌}
use native.Mathlib.Omega.{arith}
use lib.IntN.{ℤ}
use lib.ListN.{take, drop}
use Rattle.outcome.specs.Run.{Run, refused, done, run_of}
use Rattle.outcome.proofs.Run.{carried}
use Rattle.text.specs.Parts.{parts}
use Rattle.text.specs.Text.{before, rows_from, faulty}
use Rattle.text.specs.Code.{only_if}
use Rattle.search.proofs.Answer.{FirstAt, first_at}
use Rattle.text.proofs.Head.{lost}
use Rattle.text.proofs.Lines.{rows_first, rows_go, rows_out, rows_missing, rows_end, rows_surplus, row_after}
use Rattle.text.proofs.internal.lines.read_rows.Goals as goal
use Rattle.text.proofs.internal.lines.read_rows.Goals.{In_ok-stop}

-- where the search found the end of a line
found : (c : In_ok-stop) → FirstAt c.args.text.now c.loop-i.at 10 c.in_ok-stop.stop
found c = first_at (c.first.ensures.value, c.first.ensures.within) c.in_ok-stop.ensures.ok_part

pub loop-i-init : goal.loop-i-init
loop-i-init c =
    (c.requires.0, omega arith, c.told-t, rows_first c.args.n c.args.t.now (parts 10 (drop c.args.from c.args.text.now)))

pub returns-in_err-stop-clause-t_after : goal.returns-in_err-stop-clause-t_after
returns-in_err-stop-clause-t_after c =
    let n = c.in_err-stop.ensures.ok_part in
    ap (λ r. run_of r (take (2 * ((c.args.n + 1) * c.args.n)) c.loop-i.t)) (carried _ _ c.from_residual.ensures.1)
    ∙ ap {B = Run (List ℤ)} refused (lost n c.in_err-stop.ensures.value)
    ∙ sym (c.loop-i.invariant.3 ∙ rows_missing _ _ _ _ (take (2 * (c.loop-i.i * c.args.n)) c.loop-i.t) (sym c.first.ensures.value ∙ n) (omega arith))

pub returns-in_err-ok_or-clause-t_after : goal.returns-in_err-ok_or-clause-t_after
returns-in_err-ok_or-clause-t_after c =
    let last = c.read_values.new.t in
    let n = c.in_err-ok_or.ensures.ok_part in
    let q = ap (λ r. only_if r (take (2 * (c.loop-i.i * c.args.n + c.args.n)) last)) (sym n) ∙ c.read_values.ensures in
    ap (λ r. run_of r (take (2 * ((c.args.n + 1) * c.args.n)) last)) (carried _ _ c.from_residual-in_err-ok_or.ensures.1)
    ∙ ap {B = Run (List ℤ)} refused (lost n c.in_err-ok_or.ensures.value)
    ∙ sym (c.loop-i.invariant.3 ∙ rows_out _ _ _ _ (take (2 * (c.loop-i.i * c.args.n)) c.loop-i.t) (found (goal.at.returns-in_err-ok_or-clause-t_after c).In_ok-stop).is (omega arith) q)

pub loop-i-preserved : goal.loop-i-preserved
loop-i-preserved c =
    let f = found (goal.at.loop-i-preserved c).In_ok-stop in
    let last = c.read_values.new.t in
    let q = ap (λ r. only_if r (take (2 * (c.loop-i.i * c.args.n + c.args.n)) last)) (sym c.in_ok-ok_or.ensures.ok_part) ∙ c.read_values.ensures in (
      omega (arith, f),
      omega arith,
      c.read_values.auto.t ∙ c.loop-i.invariant.2,
      c.loop-i.invariant.3
          ∙ rows_go _ _ _ _ (take (2 * (c.loop-i.i * c.args.n)) c.loop-i.t) f.is (omega arith) q
          ∙ ap (λ m. before (take (2 * m) last) (rows_from c.args.n (c.args.n + 1 - (c.loop-i.i + 1)) (c.loop-i.i + 1 + 2) (parts 10 (drop (c.in_ok-stop.stop + 1) c.args.text.now)))) (sym (row_after c.args.n c.loop-i.i)),
    )

pub returns-then-at-text-clause-t_after : goal.returns-then-at-text-clause-t_after
returns-then-at-text-clause-t_after c =
    let i : c.args.n + 3 ≡ c.loop-i.i + 2 = omega arith in
    ap {B = Run (List ℤ)} faulty i ∙ sym (c.loop-i.invariant.3 ∙ rows_surplus c.args.text.now c.loop-i.at c.args.n c.loop-i.i (take (2 * (c.loop-i.i * c.args.n)) c.loop-i.t) (omega arith) (omega arith))

pub returns-clause-t_after : goal.returns-clause-t_after
returns-clause-t_after c =
    let i : c.args.n + 1 ≡ c.loop-i.i = omega arith in
    ap {B = Run (List ℤ)} (λ m. done (take (2 * (m * c.args.n)) c.loop-i.t)) i ∙ sym (c.loop-i.invariant.3 ∙ rows_end c.args.text.now c.loop-i.at c.args.n c.loop-i.i (take (2 * (c.loop-i.i * c.args.n)) c.loop-i.t) (omega arith) (omega arith))
