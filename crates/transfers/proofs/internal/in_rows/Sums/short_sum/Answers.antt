use Rattle.std.proofs.Common.{◌≡◌, ◌+◌, ◌*◌, ap, subst, ◌∙◌, ℕ, arith}
use Rattle.interval.specs.Interval.{exact_sum}
use Rattle.rows.proofs.Size.{Small, zero_small}
use Rattle.transfers.specs.Rows.{end, row_sum}
use Rattle.transfers.proofs.Short.{short_fits}
use Rattle.transfers.proofs.Rows.{summed_pair, summed_last, summed_all}
use Rattle.transfers.proofs.Terms.{span, one_grown, two_grown}
use Rattle.transfers.proofs.internal.in_rows.Sums.short_sum.Goals as goal

pub loop-j-init : goal.loop-j-init
unfolding row_sum
loop-j-init c =
    let z : end c.args.self.now.rows.ends.now c.args.i + 0 ≡ end c.args.self.now.rows.ends.now c.args.i = omega arith in
    record { so_far = rw z; small = zero_small }

pub short_two-sum-requires-clause-k_in_bounds : goal.short_two-sum-requires-clause-k_in_bounds
short_two-sum-requires-clause-k_in_bounds c = omega (arith, span _ c.args.self.now.rows.rows c.args.i c.requires.0)

pub short_two-sum-requires-clause-fits : goal.short_two-sum-requires-clause-fits
short_two-sum-requires-clause-fits c =
    let s = c.args.self.now in
    let w = span _ s.rows.rows c.args.i c.requires.0 in
    short_fits (2 * c.loop-j.j + 2) (omega (arith, w.few, s.rows.few)) (two_grown _ s.rows.rows _ (omega (arith, w.within)) s.sound c.requires.1 (2 * c.loop-j.j) c.loop-j.invariant.small)

pub loop-j-preserved : goal.loop-j-preserved
loop-j-preserved c =
    let s = c.args.self.now in
    let j = c.loop-j.j in
    let w = span _ s.rows.rows c.args.i c.requires.0 in
    let y : 2 * j + 2 ≡ 2 * (j + 1) = omega arith in
    record {
      so_far = summed_pair _ _ _ _ j _ c.loop-j.invariant.so_far c.short_two-sum.ensures (omega (arith, w.forward));
      small = subst (λ (k : ℕ). Small (k * 268435456000000000) c.short_two-sum.result) y (rw c.short_two-sum.ensures (two_grown _ s.rows.rows _ (omega (arith, w.within)) s.sound c.requires.1 (2 * j) c.loop-j.invariant.small));
    }

pub term-requires-clause-k_in_bounds : goal.term-requires-clause-k_in_bounds
term-requires-clause-k_in_bounds c = omega (arith, span _ c.args.self.now.rows.rows c.args.i c.requires.0)

pub sum-requires : goal.sum-requires
sum-requires c =
    let s = c.args.self.now in
    let w = span _ s.rows.rows c.args.i c.requires.0 in
    rw c.term.ensures (short_fits (2 * c.loop-j.j + 1) (omega (arith, w.few, s.rows.few)) (one_grown _ s.rows.rows _ (omega (arith, w.within, w.forward)) s.sound c.requires.1 (2 * c.loop-j.j) c.loop-j.invariant.small))

pub returns-then-pairs-count : goal.returns-then-pairs-count
returns-then-pairs-count c =
    let w = span _ c.args.self.now.rows.rows c.args.i c.requires.0 in
    summed_last _ _ _ _ c.loop-j.j _ c.loop-j.invariant.so_far _ (c.sum.ensures ∙ ap (exact_sum c.loop-j.sum) c.term.ensures) (omega arith) (omega (arith, w.forward))

pub returns : goal.returns
returns c =
    let w = span _ c.args.self.now.rows.rows c.args.i c.requires.0 in
    summed_all _ _ _ _ c.loop-j.j _ c.loop-j.invariant.so_far (omega (arith, w.forward))
