use mathlib.Core.Path.{◌≡◌, sym, subst}
use Prim.Native.Nat.{ℕ}
use native.Mathlib.Omega.{arith}
use Rattle.rows.specs.Code.{Summed}
use Rattle.half_rows.proofs.Shares.{SoFar, none_yet, next_sum, summed_none, summed_up}
use Rattle.half_rows.proofs.internal.tested.sum_above.Goals as goal

pub returns-then-d-lt1 : goal.returns-then-d-lt1
returns-then-d-lt1 c =
    let s = c.args in
    let e : s.d ≡ 0 = omega arith in
    (λ j k. absurd (omega arith), subst (λ (d : ℕ). Summed s.acc s.h.now s.p s.x.now s.q d s.acc) (sym e) (summed_none s.h.now s.p s.x.now s.q s.acc))

pub loop-j-init : goal.loop-j-init
loop-j-init c = (omega arith, none_yet _ _ _ _)

pub loop-j-preserved : goal.loop-j-preserved
loop-j-preserved c =
    let s = c.args in (
      omega arith,
      next_sum s.h.now s.p s.x.now s.q c.loop-j.invariant.1 c.read-a.ensures (c.is_modest.ensures (c.if-not-is_modest.false)) c.read.ensures c.next_above-sum.ensures,
    )

pub returns : goal.returns
returns c =
    let s = c.args in
    let e : c.loop-j.j ≡ s.d = omega arith in
    let w = subst (λ (k : ℕ). SoFar s.h.now s.p s.x.now s.q k c.loop-j.sum) e c.loop-j.invariant.1 in
    (w.shares, summed_up s.h.now s.p s.x.now s.q s.acc c.raised.result (omega arith) w c.raised.ensures)
