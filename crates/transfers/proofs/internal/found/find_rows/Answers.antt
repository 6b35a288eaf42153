use Rattle.std.proofs.Common.{◌≡◌, refl, length, arith}
use native.Mathlib.Nat.{sub-zero, zero-mul}
use Rattle.interval.specs.Interval.{zero}
use Rattle.transfers.specs.Listing.{transfers_of}
use Rattle.transfers.proofs.Records.{length_transfers}
use Rattle.transfers.proofs.RowEnd.{none_found, one_found, all_found, holds_self, holds_trans, none_past, range_tested}
use Rattle.transfers.proofs.Terms.{nought_range, in_range_lem}
use Rattle.transfers.proofs.internal.found.find_rows.Goals as goal
use Rattle.transfers.proofs.internal.found.find_rows.Goals.{then-n-r-via-then-n-r, then-n-r-via-else-n-r+then-not-in_range}

pub loop-i-init : goal.loop-i-init
loop-i-init c =
    let ts = transfers_of c.args.rs.now in
    record {
      within = omega arith;
      found = none_found _ _ refl refl;
      range = nought_range;
      held = holds_self zero;
      good = λ e. rw (sub-zero (length ts), zero-mul c.args.n) e;
    }

pub returns-then-n-r : goal.returns-then-n-r
returns-then-n-r c = λ e.
    let v = c.loop-i.invariant in
    let r = c.in_ok-r.ensures in
    let p = r.passes v.range (v.good e) in
    elim c.then-n-r.branch [
      | then-n-r-via-then-n-r w ↦ omega (arith, p.0)
      | then-n-r-via-else-n-r+then-not-in_range w ↦
          let t = range_tested c.in_ok-r.r.hull p.1 (holds_trans r.held v.held) in cc
    ]

pub loop-i-preserved : goal.loop-i-preserved
loop-i-preserved c =
    let v = c.loop-i.invariant in
    let r = c.in_ok-r.ensures in
    let w = r.is (omega arith) in
    let h = length_transfers c.args.rs.now in
    record {
      within = omega (arith, w.within, h);
      found = one_found _ _ v.found (omega arith) r.held w;
      range = in_range_lem _ cc;
      held = holds_trans r.held v.held;
      good = λ e. (r.passes v.range (v.good e)).2;
    }

pub returns-then-from-rs : goal.returns-then-from-rs
returns-then-from-rs c = λ e.
    let n = c.args.n in
    let z : c.loop-i.i ≡ n = omega arith in
    omega (arith, length_transfers c.args.rs.now, none_past n _ c.requires c.loop-i.from (rw z at (c.loop-i.invariant.good e)))

pub returns : goal.returns
returns c =
    let v = c.loop-i.invariant in
    (all_found _ _ v.found (omega arith) (omega (arith, length_transfers c.args.rs.now, v.within)), v.range)
