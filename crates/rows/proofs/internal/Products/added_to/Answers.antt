use mathlib.Core.Path.{◌≡◌, sym, ◌∙◌}
use Prim.Native.Nat.{◌+◌, ◌*◌, ◌/◌}
use native.Mathlib.Omega.{arith}
use Rattle.wide_sum.proofs.Near.{near_both_more}
use Rattle.rows.proofs.Exact.{exactly_end, exactly_one, exactly_two}
use Rattle.rows.proofs.internal.Products.added_to.Goals as goal

pub loop-j-preserved : goal.loop-j-preserved
loop-j-preserved c =
    let e : 2 * (c.loop-j.j + 1) ≡ 2 * c.loop-j.j + 2 = omega arith in (
      omega arith,
      λ k n. near_both_more (omega arith) (c.next_two-sum.ensures.near _ (c.loop-j.invariant.1 k n)),
      c.loop-j.invariant.2 ∙ exactly_two _ _ _ _ _ _ _ (omega arith) ∙ rw (e, c.next_two-sum.ensures.is),
    )

pub next_one-requires-clause-near_both : goal.next_one-requires-clause-near_both
next_one-requires-clause-near_both c = near_both_more (omega arith) (c.loop-j.invariant.1 900 c.requires)

pub returns-then-k-self : goal.returns-then-k-self
returns-then-k-self c =
    let s = c.args.self in
    let e : c.loop-j.j ≡ s.d / 2 = omega arith in
    record {
      is =
          sym
          ((rw e at c.loop-j.invariant.2) ∙ exactly_one s.m.now s.p s.x.now s.q s.d (2 * (s.d / 2)) _ (omega arith)
          ∙ exactly_end _ _ _ _ _ _ _ (omega arith) ∙ sym c.next_one.ensures.is);
      near = λ k n. near_both_more (omega arith) (c.next_one.ensures.near _ (c.loop-j.invariant.1 k n));
    }

pub returns : goal.returns
returns c =
    record {
      is = sym (c.loop-j.invariant.2 ∙ exactly_end _ _ _ _ _ _ _ (omega arith));
      near = λ k n. near_both_more (omega arith) (c.loop-j.invariant.1 k n);
    }
