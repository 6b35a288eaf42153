use mathlib.Core.Path.{◌≡◌, refl, sym, ap, ◌∙◌}
use mathlib.Core.Bool.{true}
use Prim.Native.Nat.{ℕ, ◌+◌, ◌-◌}
use native.Mathlib.Omega.{arith}
use Rattle.interval.specs.Interval.{acceptable}
use Rattle.inputs.specs.Place.{at}
use Rattle.inputs.specs.Tests.{proper}
use Rattle.half_rows.specs.Rows.{first, beside, begin}
use Rattle.half_rows.specs.Code.{is_back}
use Rattle.half_rows.proofs.Row.{Spans, spans, not_tested, joined_is}
use Rattle.half_rows.proofs.Shares.{single_none, single_share, single_is, diagonal_fails, half_passes}
use Rattle.half_rows.proofs.internal.pass.HalfPass.summed.Goals as goal
use Rattle.half_rows.proofs.internal.pass.HalfPass.summed.Goals.{After-begin}

-- where the diagonal stands
placed : (c : After-begin) → let s = c.args.self in Spans s.n c.args.i c.begin.result (first (is_back s.way) c.args.i) (beside (is_back s.way) s.n c.args.i)
placed c = spans _ _ _ c.begin.ensures refl refl c.requires.boxed.0

diagonal : (c : After-begin) → at c.args.h.now (c.args.i - c.begin.result) ≡ at c.args.h.now (c.args.i - begin (is_back c.args.self.way) c.args.i)
diagonal c = ap (λ (f : ℕ). at c.args.h.now (c.args.i - f)) c.begin.ensures

pub overflow_sub-a : goal.overflow_sub-a
overflow_sub-a c = (placed c).diagonal

pub slice_bounds-next_single-end : goal.slice_bounds-next_single-end
slice_bounds-next_single-end c = omega (arith, (placed (goal.at.slice_bounds-next_single-end c).After-begin).diagonal_in, c.requires.h_len.0)

pub returns-in_err-known : goal.returns-in_err-known
returns-in_err-known c =
    let a = c.args in
    let s = a.self in
    let d = diagonal (goal.at.returns-in_err-known c).After-begin in
    rw c.from_residual.ensures
    (not_tested (proper a.h.now (beside (is_back s.way) s.n a.i + 1) 0 0) true
    (diagonal_fails (is_back s.way) s.n a.i a.h.now c.requires.boxed.0
    (ap acceptable (sym d) ∙ single_none a.side a.h.now (a.i - c.begin.result) a.x.now a.i _ c.next_single.ensures (c.in_err-known.was {u = tt}))))

pub returns : goal.returns
returns c =
    let a = c.args in
    let s = a.self in
    let b = is_back s.way in
    let q = c.requires.side_summed in
    let d = diagonal (goal.at.returns c).After-begin in
    let w = c.in_ok-known.was {u = tt} in (
      half_passes b s.n a.i a.h.now c.requires.boxed.0 q.shares (ap acceptable (sym d) ∙ single_share a.side a.h.now (a.i - c.begin.result) a.x.now a.i _ c.next_single.ensures w),
      refl,
      joined_is b s.n a.i a.h.now s.right.now a.x.now c.begin.ensures _ q.is (single_is a.side a.h.now (a.i - c.begin.result) a.x.now a.i _ c.next_single.ensures w) c.joined_row-v.ensures,
      q.is,
      q.near,
    )
