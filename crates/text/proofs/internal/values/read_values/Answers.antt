use mathlib.Core.Path.{◌≡◌, sym, ap, ◌∙◌}
use Prim.Native.Nat.{◌+◌, ◌-◌, ◌*◌}
use native.Mathlib.Omega.{arith}
use lib.ListN.{length, take, drop}
use Rattle.std.specs.Prelude.{Some}
use Rattle.text.specs.Parts.{fields}
use Rattle.text.specs.Number.{value, then, values}
use Rattle.text.specs.Code.{only_if}
use Rattle.search.proofs.Answer.{FirstAt, first_at}
use Rattle.text.proofs.Values.{line_go, line_out, line_long, line_short, line_last}
use Rattle.text.proofs.internal.values.read_values.Goals as goal
use Rattle.text.proofs.internal.values.read_values.Goals.{In_ok-stop}

-- where the search found the end of a part
found : (c : In_ok-stop) → FirstAt c.args.line.now c.loop-i.at 59 c.in_ok-stop.stop
found c = first_at (c.first.ensures.value, c.first.ensures.within) c.in_ok-stop.was

pub returns-in_err-stop : goal.returns-in_err-stop
returns-in_err-stop c =
    ap (λ r. only_if r (take (2 * (c.args.p + c.args.n)) c.loop-i.t)) c.from_residual.ensures
    ∙ line_short _ _ _ _ (Some (take (2 * (c.args.p + c.loop-i.i)) c.loop-i.t)) (sym c.first.ensures.value ∙ c.in_err-stop.was) (omega arith) ∙ sym c.loop-i.invariant.3

pub returns-in_err-place_value : goal.returns-in_err-place_value
returns-in_err-place_value c =
    let f = found (goal.at.returns-in_err-place_value c).In_ok-stop in
    ap (λ r. only_if r (take (2 * (c.args.p + c.args.n)) c.place_value.new.t)) c.from_residual-in_err-place_value.ensures
    ∙ line_out _ _ _ _ (Some (take (2 * (c.args.p + c.loop-i.i)) c.loop-i.t)) f.is (omega arith) c.in_err-place_value.ensures ∙ sym c.loop-i.invariant.3

pub loop-i-preserved : goal.loop-i-preserved
loop-i-preserved c =
    let f = found (goal.at.loop-i-preserved c).In_ok-stop in
    let last = c.place_value.new.t in
    let j : c.args.p + c.loop-i.i + 1 ≡ c.args.p + (c.loop-i.i + 1) = omega arith in (
      omega (arith, f),
      omega arith,
      c.place_value.auto.t ∙ c.loop-i.invariant.2,
      c.loop-i.invariant.3
          ∙ line_go _ _ _ _ (Some (take (2 * (c.args.p + c.loop-i.i)) c.loop-i.t)) f.is (omega arith) c.in_ok-place_value.ensures
          ∙ ap (λ m. then (Some (take (2 * m) last)) (values (c.args.n - (c.loop-i.i + 1)) (fields (drop (c.in_ok-stop.stop + 1) c.args.line.now)))) j,
    )

pub returns-then-is_some : goal.returns-then-is_some
returns-then-is_some c =
    line_long _ _ _ _ (Some (take (2 * (c.args.p + c.loop-i.i)) c.loop-i.t)) (rw c.first-2.ensures.value at (sym c.is_some.ensures ∙ c.if-is_some.true)) (omega arith) ∙ sym c.loop-i.invariant.3

pub returns : goal.returns
returns c =
    let last = c.place_value-2.new.t in
    let i : c.args.n - 1 ≡ c.loop-i.i = omega arith in
    let j : c.args.p + c.args.n ≡ c.args.p + (c.args.n - 1) + 1 = omega arith in
    ap (λ m. only_if c.place_value-2.result (take (2 * m) last)) j
    ∙ line_last _ _ _ _ (Some (take (2 * (c.args.p + c.loop-i.i)) c.loop-i.t)) (rw c.first-2.ensures.value at (sym c.is_some.ensures ∙ c.if-is_some.false)) (omega arith)
    (c.place_value-2.ensures ∙ ap (λ m. then (Some (take (2 * (c.args.p + m)) c.loop-i.t)) (value (take (length c.args.line.now - c.loop-i.at) (drop c.loop-i.at c.args.line.now)))) i)
    ∙ sym c.loop-i.invariant.3
