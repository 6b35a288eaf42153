use Rattle.std.proofs.Common.{◌≡◌, ◌+◌, ◌<◌, sym, ap, subst, ◌∙◌, arith, rules, w64, pos, nat_abs, length}
use lib.Dec.{T}
use mir.Val.{SFits, to_z, of_z}
use mir.ValLaws.{to_z-of_z}
use Rattle.transfers.specs.Listing.{nth, share, transfers_of}
use Rattle.transfers.specs.Rows.{hull}
use Rattle.transfers.proofs.Records.{length_transfers}
use Rattle.transfers.proofs.RowEnd.{one_more, row_ends, holds_trans, hull_left, kept_last, kept_past, kept_goes, kept_more}
use Rattle.transfers.proofs.internal.found.row_end.Goals as goal

pub returns-then-not-is_in_row : goal.returns-then-not-is_in_row
returns-then-not-is_in_row c =
    let ts = transfers_of c.args.rs.now in
    let v = c.loop-k.invariant in
    let z : c.loop-k.row.end < length ts = omega (arith, length_transfers c.args.rs.now, v.end, c.loop-k-test.true) in
    let t = c.record-t.ensures ∙ sym (ap (nth ts) v.end) in
    record {
      held = v.held;
      is = λ h. row_ends _ _ _ _ v.so_far h (omega arith);
      passes = kept_past _ _ c.requires.0 _ _ _ (v.kept c.requires.0) c.requires.1 z (λ e. let f = c.is_in_row.ensures.1 cc in cc);
    }

pub returns-then-not-goes_on : goal.returns-then-not-goes_on
returns-then-not-goes_on c = λ r e.
    let ts = transfers_of c.args.rs.now in
    let v = c.loop-k.invariant in
    let k = c.loop-k.row.end in
    let z : c.loop-k.row.end < length ts = omega (arith, length_transfers c.args.rs.now, v.end, c.loop-k-test.true) in
    let t = c.record-t.ensures ∙ sym (ap (nth ts) v.end) in
    let own = c.is_in_row.ensures.0 c.if-not-is_in_row.false in
    let i : (nth ts k).receiver ≡ pos (c.args.i + 1) = cc in
    let w = kept_goes _ _ c.requires.0 _ _ _ (v.kept c.requires.0) c.requires.1 z i r e in
    absurd (subst T (sym (c.goes_on.ensures.1 (rw t w.0) (rw t w.1)) ∙ c.if-not-goes_on.true) tt)

pub loop-k-preserved : goal.loop-k-preserved
loop-k-preserved c =
    let ts = transfers_of c.args.rs.now in
    let v = c.loop-k.invariant in
    let k = c.loop-k.row.end in
    let z : c.loop-k.row.end < length ts = omega (arith, length_transfers c.args.rs.now, v.end, c.loop-k-test.true) in
    let t = c.record-t.ensures ∙ sym (ap (nth ts) v.end) in
    let own = c.is_in_row.ensures.0 c.if-not-is_in_row.false in
    let i : (nth ts k).receiver ≡ pos (c.args.i + 1) = cc in
    let l = c.goes_on.ensures.0 c.if-not-goes_on.false in
    let f : SFits w64 c.record-t.result.giver = search rules in
    let p : nat_abs (to_z w64 (of_z w64 c.record-t.result.giver)) ≡ nat_abs (nth ts k).giver = ap nat_abs (to_z-of_z w64 c.record-t.result.giver f) ∙ cc in
    let h : c.hull.result ≡ hull c.loop-k.row.hull (share (nth ts k)) = cc in
    record {
      end = search rules;
      inside = omega arith;
      few = rw p (rw t at l.0).few;
      held = rw h (holds_trans (hull_left _ _) v.held);
      so_far = rw (← v.end, p, h) (one_more _ _ _ _ v.so_far c.requires.1 z i (rw t at l.0) (rw t at l.1));
      kept = λ few. rw (← v.end, p, h) (kept_more _ _ few _ _ _ (v.kept few) c.requires.1 z i);
    }

pub returns : goal.returns
returns c =
    let v = c.loop-k.invariant in
    let z = length_transfers c.args.rs.now in
    record {
      held = v.held;
      is = λ h. row_ends _ _ _ _ v.so_far h (omega (arith, z, v.end, v.inside));
      passes = kept_last _ _ c.requires.0 _ _ _ (v.kept c.requires.0) (omega (arith, z, v.end, v.inside));
    }
