use Rattle.std.proofs.Common.{◌≡◌, ◌≤◌, sym, ◌∙◌, length, arith}
use Rattle.std.specs.Prelude.{Ok}
use Rattle.inputs.specs.Tests.{proper}
use Rattle.sweep.specs.Call.{allowance}
use Rattle.transfers.specs.Listing.{Listing, listing, sizes, transfers_of}
use Rattle.transfers.specs.Code.{judgement}
use Rattle.transfers.specs.Rows.{InRange, Rows}
use Rattle.transfers.proofs.Records.{length_transfers}
use Rattle.transfers.proofs.Sizes.{Fitting, fitting}
use Rattle.transfers.proofs.Rows.{rows_judged}
use Rattle.transfers.proofs.Call.{sweep_stops, sweep_sizes, sweep_allowed, sweep_records, sweep_right, sweep_box}
use Rattle.transfers.proofs.internal.calls.tested.Goals as goal
use Rattle.transfers.proofs.internal.calls.tested.Goals.{In_ok-sizes, In_ok-budget, In_ok-ends, In_ok-intervals}

-- ---- what each test says when it passes
abbrev lent : In_ok-sizes → Listing
lent c = listing c.args.n (transfers_of c.args.rs.now) c.args.b.now

sized : (c : In_ok-sizes) → sizes (lent c) (length c.args.bounds.now) ≡ Ok tt
sized c = sym c.sizes.ensures ∙ c.in_ok-sizes.was

fits : (c : In_ok-sizes) → Fitting (lent c) (length c.args.bounds.now)
fits c = fitting _ _ (sized c)

few : (c : In_ok-sizes) → length c.args.rs.now ≤ 1024
few c = rw (length_transfers _) at (fits c).short

allowed : (c : In_ok-budget) → allowance c.args.allowed ≡ Ok tt
allowed c = sym c.budget.ensures ∙ c.in_ok-budget.was

rows : (c : In_ok-ends) → Rows c.args.n (transfers_of c.args.rs.now) c.in_ok-ends.ends.at c.in_ok-ends.ends.hull × InRange c.in_ok-ends.ends.hull
rows c = rw c.in_ok-ends.was at c.tried_rows.ensures

judged : (c : In_ok-ends) → judgement c.args.n (transfers_of c.args.rs.now) ≡ Ok tt
judged c = rows_judged _ _ _ (rows c).1 (rows c).0

righted : (c : In_ok-intervals) → proper c.args.b.now c.args.n 0 (length (transfers_of c.args.rs.now)) ≡ Ok tt
righted c = rw (length_transfers c.args.rs.now) (sym c.intervals.ensures ∙ c.in_ok-intervals.was)

pub returns-in_err-sizes : goal.returns-in_err-sizes
returns-in_err-sizes c = sweep_stops _ _ _ _ c.from_residual.ensures.1 (sweep_sizes _ _ _ (sym c.sizes.ensures ∙ c.in_err-sizes.was))

pub returns-in_err-budget : goal.returns-in_err-budget
returns-in_err-budget c =
    let p = goal.at.returns-in_err-budget c in
    sweep_stops _ _ _ _ c.from_residual-in_err-budget.ensures.1 (sweep_allowed _ _ _ (sized p.In_ok-sizes) (sym c.budget.ensures ∙ c.in_err-budget.was))

pub tried_rows-requires : goal.tried_rows-requires
tried_rows-requires c = (fits (goal.at.tried_rows-requires c).In_ok-sizes).few

pub returns-in_err-ends : goal.returns-in_err-ends
returns-in_err-ends c =
    let p = goal.at.returns-in_err-ends c in
    sweep_stops _ _ _ _ c.from_residual-in_err-ends.ensures.1 (sweep_records _ _ _ (sized p.In_ok-sizes) (allowed p.In_ok-budget) (rw c.in_err-ends.was at c.tried_rows.ensures))

pub intervals-requires : goal.intervals-requires
intervals-requires c =
    let p = (goal.at.intervals-requires c).In_ok-sizes in
    let f = fits p in
    (omega (arith, f.right), omega (arith, f.few, few p))

pub returns-in_err-intervals : goal.returns-in_err-intervals
returns-in_err-intervals c =
    let p = goal.at.returns-in_err-intervals c in
    sweep_stops _ _ _ _ c.from_residual-in_err-intervals.ensures.1 (sweep_right _ _ _ (sized p.In_ok-sizes) (allowed p.In_ok-budget) (judged p.In_ok-ends) (rw (length_transfers c.args.rs.now) (sym c.intervals.ensures ∙ c.in_err-intervals.was)))

pub overflow_add-rs : goal.overflow_add-rs
overflow_add-rs c = let p = (goal.at.overflow_add-rs c).In_ok-sizes in record { fits = omega (arith, (fits p).few, few p) }

pub intervals-requires-2 : goal.intervals-requires-2
intervals-requires-2 c =
    let p = (goal.at.intervals-requires-2 c).In_ok-sizes in
    let f = fits p in
    (omega (arith, f.box), omega (arith, f.few, few p))

pub returns-in_err-intervals-2 : goal.returns-in_err-intervals-2
returns-in_err-intervals-2 c =
    let p = goal.at.returns-in_err-intervals-2 c in
    sweep_stops _ _ _ _ c.from_residual-in_err-intervals-2.ensures.1
    (sweep_box _ _ _ (sized p.In_ok-sizes) (allowed p.In_ok-budget) (judged p.In_ok-ends) (righted p.In_ok-intervals) ∙ rw (length_transfers c.args.rs.now) (sym c.intervals-2.ensures ∙ c.in_err-intervals-2.was))

pub returns : goal.returns
returns c =
    let p = goal.at.returns c in
    let r = rows p.In_ok-ends in
    (sweep_box _ _ _ (sized p.In_ok-sizes) (allowed p.In_ok-budget) (judged p.In_ok-ends) (righted p.In_ok-intervals) ∙ rw (length_transfers c.args.rs.now) (sym c.intervals-2.ensures ∙ c.in_ok-intervals-2.was), r.0, r.1)
