use Rattle.std.proofs.Common.{sym, ap, ◌∙◌}
use Rattle.std.specs.Prelude.{Err}
use Rattle.transfers.proofs.Tried.{tried_end, tried_go, tried_out}
use Rattle.transfers.proofs.internal.tests.tried.Goals as goal

pub returns-then-not-meets : goal.returns-then-not-meets
returns-then-not-meets g c = λ p o m r.
    let k = c.loop-k.k in
    let e = m k _ c.loop-k.auto.k c.loop-k-test.true c.meets.ensures in
    ap Err (r k _ c.refusal.ensures) ∙ sym (c.loop-k.invariant p o m ∙ tried_out p o _ k c.loop-k-test.true (sym e ∙ c.if-not-meets.true))

pub loop-k-preserved : goal.loop-k-preserved
loop-k-preserved g c = λ p o m.
    let k = c.loop-k.k in
    let e = m k _ c.loop-k.auto.k c.loop-k-test.true c.meets.ensures in
    c.loop-k.invariant p o m ∙ tried_go p o _ k c.loop-k-test.true (sym e ∙ c.if-not-meets.false)

pub returns : goal.returns
returns g c = λ p o m r. sym (c.loop-k.invariant p o m ∙ tried_end p o _ c.loop-k.k c.loop-k-test.false)
