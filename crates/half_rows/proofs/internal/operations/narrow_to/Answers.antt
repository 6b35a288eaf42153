use mathlib.Core.Path.{◌≡◌, refl, ap, ap₂, ◌∙◌}
use mathlib.Core.Bool.{Bool}
use Prim.Native.Nat.{ℕ}
use native.Mathlib.Omega.{arith}
use lib.ListN.{take, drop}
use Rattle.std.proofs.lemmas.Result.{err_from_is_err_and}
use Rattle.outcome.specs.Run.{run_of}
use Rattle.half_rows.specs.State.{sums_place, with_box, with_sums}
use Rattle.half_rows.specs.Code.{is_back}
use Rattle.half_rows.proofs.Row.{spans}
use Rattle.half_rows.proofs.State.{sums_end}
use Rattle.half_rows.proofs.Ends.{renewal, renewal_is, narrow_stops, narrow_ends}
use Rattle.half_rows.proofs.internal.operations.narrow_to.Goals as goal
use Rattle.half_rows.proofs.internal.operations.narrow_to.Goals.{After-renew}

pub copy_out-requires : goal.copy_out-requires
copy_out-requires c = omega (arith, sums_end)

pub renew-requires : goal.renew-requires
renew-requires c =
    let w = spans _ c.args.n c.args.v refl c.first.ensures c.beside.ensures c.requires.n_bound.1 in
    (w.box, c.copy_out.auto.x ∙ c.requires.n_bound.3)

-- what the renewal came to
came : (c : After-renew) → let s = c.args in run_of c.renew.result c.renew.new.sums ≡ renewal (is_back s.way) s.state.now s.n s.v s.new
came c =
    let s = c.args in
    renewal_is (is_back s.way) s.state.now s.n s.v s.new _ _ _ c.requires.n_bound.2
    (c.copy_out.ensures ∙ ap₂ (λ (l p : ℕ). take l (drop p s.state.now)) c.requires.n_bound.3 (c.sums_place.ensures ∙ ap sums_place c.other-ahead.ensures))
    c.read.ensures c.first.ensures c.beside.ensures c.renew.ensures

pub returns-in_err-renew : goal.returns-in_err-renew
returns-in_err-renew c =
    let p = err_from_is_err_and c.from_residual.result c.from_residual.ensures.1 in
    rw (p.1, p.2) (narrow_stops _ _ _ _ _ _ (came (goal.at.returns-in_err-renew c).After-renew) (c.in_err-renew.was {u = tt}))

pub returns : goal.returns
returns c =
    narrow_ends _ _ _ _ _ _ (came (goal.at.returns c).After-renew) (c.in_ok-renew.was {u = tt}) c.requires.n_bound.2 c.write.ensures
    (c.put_parts.ensures ∙ ap (λ (b : Bool). with_sums (with_box c.args.state.now c.write.new.s) b c.renew.new.sums) c.other-ahead.ensures)
