use Rattle.std.proofs.Common.{◌≡◌, ◌+◌, ap, ◌∙◌, arith}
use Rattle.interval.specs.Interval.{exact_sum}
use Rattle.wide_sum.specs.Wide.{held_both}
use Rattle.wide_sum.proofs.Near.{near_both_more}
use Rattle.transfers.specs.Rows.{end, row_sum}
use Rattle.transfers.proofs.Rows.{summed_pair, summed_last, summed_all}
use Rattle.transfers.proofs.Terms.{span}
use Rattle.transfers.proofs.internal.in_rows.Sums.wide_sum.Goals as goal

pub loop-j-init : goal.loop-j-init
unfolding row_sum
loop-j-init c =
    let z : end c.args.self.now.rows.ends.now c.args.i + 0 ≡ end c.args.self.now.rows.ends.now c.args.i = omega arith in
    record { so_far = rw (z, c.nought-sum.ensures.0); near = c.nought-sum.ensures.1 }

pub wide_two-sum-requires : goal.wide_two-sum-requires
wide_two-sum-requires c =
    let s = c.args.self.now in
    let w = span _ s.rows.rows c.args.i c.requires in
    (omega (arith, w.within), near_both_more (omega (arith, w.few, s.rows.few)) c.loop-j.invariant.near)

pub loop-j-preserved : goal.loop-j-preserved
loop-j-preserved c =
    let w = span _ c.args.self.now.rows.rows c.args.i c.requires in
    record {
      so_far = summed_pair _ _ _ _ c.loop-j.j _ c.loop-j.invariant.so_far c.wide_two-sum.ensures.is (omega (arith, w.forward));
      near = c.wide_two-sum.ensures.near _ c.loop-j.invariant.near;
    }

pub term-requires-clause-k_in_bounds : goal.term-requires-clause-k_in_bounds
term-requires-clause-k_in_bounds c = omega (arith, span _ c.args.self.now.rows.rows c.args.i c.requires)

pub added-requires : goal.added-requires
added-requires c =
    let s = c.args.self.now in
    let w = span _ s.rows.rows c.args.i c.requires in
    near_both_more (omega (arith, w.few, s.rows.few)) c.loop-j.invariant.near

pub returns-then-pairs-count : goal.returns-then-pairs-count
returns-then-pairs-count c =
    let s = c.args.self.now in
    let w = span _ s.rows.rows c.args.i c.requires in (
      summed_last _ _ _ _ c.loop-j.j _ c.loop-j.invariant.so_far _ (c.added.ensures.is ∙ ap (exact_sum (held_both c.loop-j.sum)) c.term.ensures) (omega arith) (omega (arith, w.forward)),
      near_both_more (omega (arith, w.few, s.rows.few)) (c.added.ensures.near _ c.loop-j.invariant.near),
    )

pub returns : goal.returns
returns c =
    let s = c.args.self.now in
    let w = span _ s.rows.rows c.args.i c.requires in
    (summed_all _ _ _ _ c.loop-j.j _ c.loop-j.invariant.so_far (omega (arith, w.forward)), near_both_more (omega (arith, w.few, s.rows.few)) c.loop-j.invariant.near)
