use mathlib.Core.Path.{◌≡◌, sym, subst, ◌∙◌}
use mathlib.Core.List.{List}
use native.Mathlib.Omega.{arith}
use lib.IntN.{ℤ}
use lib.ListN.{length}
use Rattle.sweep.specs.Call.{sweeps}
use Rattle.sweep.specs.Code.{pass, Logged}
use Rattle.sweep.proofs.Log.{copied_all, logged_from, ran_lent, ran_written}
use Rattle.sweep.proofs.internal.calls.tighten.Goals as goal
use Rattle.sweep.proofs.internal.calls.tighten.Goals.{Start, After-copy_out, After-repeat-s}

as_long : (g : _) (c : Start g) → length c.args.x.now ≡ length c.args.bounds.now
as_long g c = c.requires.x_len ∙ sym (g.met.B.Balance.all_sound _ _ c.requires.ready).box

-- the copy is the lent box
copied : (g : _) (c : After-copy_out g) → c.copy_out.new.x ≡ c.args.bounds.now
copied g c = copied_all _ _ c.copy_out.ensures (as_long g (goal.at.After-copy_out g c).Start)

-- the sweeps, from the lent box on; the box after them is as long as the lent one
logged : (g : _) (c : After-repeat-s g) →
    let s = g.B.Balance.system c.args.balance.now in
    Logged (sweeps s.size (pass c.args.way s) c.args.allowed c.args.bounds.now) c.args.bounds.now c.repeat-s.result c.repeat-s.new.x
logged g c = logged_from _ _ _ (copied g (goal.at.After-repeat-s g c).After-copy_out) c.repeat-s.ensures

left_long : (g : _) (c : After-repeat-s g) → length c.repeat-s.new.x ≡ length c.args.bounds.now
left_long g c = c.repeat-s.auto.x ∙ c.copy_out.auto.x ∙ as_long g (goal.at.After-repeat-s g c).Start

pub copy_out-requires : goal.copy_out-requires
copy_out-requires g c = omega (arith, as_long g (goal.at.copy_out-requires g c).Start)

pub repeat-s-requires : goal.repeat-s-requires
repeat-s-requires g c =
    subst (λ (y : List ℤ). g.B.Balance.is_ready c.args.balance.now y) (sym (copied g (goal.at.repeat-s-requires g c).After-copy_out)) c.requires.ready

pub copy_out-requires-then-is_ok : goal.copy_out-requires-then-is_ok
copy_out-requires-then-is_ok g c = omega (arith, left_long g (goal.at.copy_out-requires-then-is_ok g c).After-repeat-s)

pub returns-then-is_ok : goal.returns-then-is_ok
returns-then-is_ok g c =
    let b = (goal.at.returns-then-is_ok g c).After-repeat-s in
    ran_written (logged g b) (sym c.is_ok.ensures.value ∙ c.if-is_ok.true)
    (copied_all c.args.bounds.now c.repeat-s.new.x c.copy_out-then-is_ok.ensures (sym (left_long g b)))

pub returns-else-is_ok : goal.returns-else-is_ok
returns-else-is_ok g c = ran_lent (logged g (goal.at.returns-else-is_ok g c).After-repeat-s) (sym c.is_ok.ensures.value ∙ c.if-is_ok.false)
