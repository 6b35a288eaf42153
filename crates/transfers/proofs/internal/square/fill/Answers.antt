use Rattle.std.proofs.Common.{◌≡◌, sym, ◌∙◌, length, rules, true, arith}
use native.Mathlib.Nat.{sub-zero}
use Rattle.interval.specs.Interval.{acceptable}
use Rattle.inputs.specs.Place.{put}
use Rattle.transfers.specs.Listing.{nth, share, both_components, place_of, transfers_of}
use Rattle.transfers.proofs.Records.{nth_transfers, length_transfers}
use Rattle.transfers.proofs.Filled.{filled_end, filled_go}
use Rattle.transfers.proofs.Good.{good_end, good_unknown, good_before, good_improper, good_go}
use Rattle.transfers.proofs.internal.square.fill.Goals as goal
use Rattle.transfers.proofs.internal.square.fill.Goals.{then-p-next-via-then-p-next, then-p-next-via-else-p-next+then-not-is_acceptable}

pub loop-r-init : goal.loop-r-init
loop-r-init c = rw (length_transfers c.args.rs.now, sub-zero (length c.args.rs.now)) (search rules)

pub returns-then-not-both_components : goal.returns-then-not-both_components
returns-then-not-both_components c =
    let e = nth_transfers c.args.rs.now c.loop-r.r-index in
    c.loop-r.invariant.good ∙ good_unknown _ _ _ _ _ c.loop-r-test.true cc

pub returns-then-p-next : goal.returns-then-p-next
returns-then-p-next c =
    let v = c.loop-r.invariant in
    let k = c.loop-r.r-index in
    let e = nth_transfers c.args.rs.now k in
    let known : both_components c.args.n (nth (transfers_of c.args.rs.now) k) ≡ true = cc in
    let place : c.place-p.result ≡ place_of c.args.n (nth (transfers_of c.args.rs.now) k) = cc in
    elim c.then-p-next.branch [
      | then-p-next-via-then-p-next w ↦ v.good ∙ good_before _ _ _ _ _ c.loop-r-test.true known (omega (arith, place))
      | then-p-next-via-else-p-next+then-not-is_acceptable w ↦ v.good ∙ good_improper _ _ _ _ _ c.loop-r-test.true known (omega (arith, place)) cc
    ]

pub loop-r-preserved : goal.loop-r-preserved
loop-r-preserved c =
    let n = c.args.n in
    let ts = transfers_of c.args.rs.now in
    let v = c.loop-r.invariant in
    let k = c.loop-r.r-index in
    let e = nth_transfers c.args.rs.now k in
    let known : both_components n (nth ts k) ≡ true = cc in
    let place : c.place-p.result ≡ place_of n (nth ts k) = cc in
    let proper : acceptable (share (nth ts k)) ≡ true = cc in
    let put : c.write.new.s ≡ put c.loop-r.square (place_of n (nth ts k)) (share (nth ts k)) = cc in
    let g = good_go n ts (length c.args.rs.now) k c.loop-r.next c.loop-r-test.true known (omega (arith, place)) proper in
    let f = filled_go n ts (length c.args.rs.now) k c.loop-r.square c.loop-r-test.true in
    record { long = search rules; good = cc; matrix = cc }

pub returns : goal.returns
returns c =
    let v = c.loop-r.invariant in
    (v.good ∙ good_end _ _ _ _ _ c.loop-r-test.false, sym (v.matrix ∙ filled_end _ _ _ _ _ c.loop-r-test.false))
