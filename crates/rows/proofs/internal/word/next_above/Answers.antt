use mathlib.Core.Path.{ap, subst, ◌∙◌, sym}
use Prim.Native.Nat.{◌+◌}
use native.Mathlib.Omega.{arith}
use Rattle.interval.specs.declared.Interval.{Interval}
use Rattle.interval.specs.Interval.{exact_sum}
use Rattle.interval.specs.Code.{Representable}
use Rattle.rows.specs.Word.{SumModest}
use Rattle.rows.proofs.Word.{sum_modest, modest_fits}
use Rattle.rows.proofs.internal.word.next_above.Goals as goal

pub sum-requires : goal.sum-requires
sum-requires c =
    let p = c.requires.modest in
    subst (λ (u : Interval). Representable (exact_sum c.args.sum u)) (sym c.product_above-u.ensures) (modest_fits 32 (omega arith) (sum_modest c.args.a c.args.b p.0 p.1 p.2 31 c.requires.sum_modest))

pub returns : goal.returns
returns c =
    let p = c.requires.modest in
    let e = c.sum.ensures ∙ ap (exact_sum c.args.sum) c.product_above-u.ensures in
    record { is = e; modest = λ k v. subst (λ (r : Interval). SumModest (k + 1) r) (sym e) (sum_modest c.args.a c.args.b p.0 p.1 p.2 k v) }
