use Rattle.std.proofs.Common.{◌≡◌, ◌*◌, ◌≤◌, sym, refl, ◌∙◌, length, arith, pos}
use lib.ListN.{length-replicate}
use Rattle.std.specs.Prelude.{Ok}
use Rattle.inputs.specs.Tests.{proper}
use Rattle.inputs.proofs.Tests.{square as square_few}
use Rattle.inputs.proofs.System.{ready}
use Rattle.elimination.proofs.Call.{copied_working}
use Rattle.transfers.specs.Listing.{Listing, listing, sizes, transfers_of}
use Rattle.transfers.specs.Code.{judgement}
use Rattle.transfers.proofs.Records.{length_transfers}
use Rattle.transfers.proofs.Sizes.{Fitting, fitting}
use Rattle.transfers.proofs.Call.{copied_is, list_sizes, list_records, list_right, list_ready, list_runs, list_stops}
use Rattle.transfers.proofs.internal.calls.eliminate_records.Goals as goal
use Rattle.transfers.proofs.internal.calls.eliminate_records.Goals.{In_ok-sizes, In_ok-enter, In_ok-intervals}

-- ---- what each test says when it passes
abbrev lent : In_ok-sizes → Listing
lent c = listing c.args.n (transfers_of c.args.rs.now) c.args.b.now

sized : (c : In_ok-sizes) → sizes (lent c) (length c.args.bounds.now) ≡ Ok tt
sized c = sym c.sizes.ensures ∙ c.in_ok-sizes.was

fits : (c : In_ok-sizes) → Fitting (lent c) (length c.args.bounds.now)
fits c = fitting _ _ (sized c)

few : (c : In_ok-sizes) → c.args.n * c.args.n ≤ 1024
few c = square_few _ (fits c).few

judged : (c : In_ok-enter) → judgement c.args.n (transfers_of c.args.rs.now) ≡ Ok tt
judged c = sym c.enter.ensures.said ∙ c.in_ok-enter.was

righted : (c : In_ok-intervals) → proper c.args.b.now c.args.n 0 (length (transfers_of c.args.rs.now)) ≡ Ok tt
righted c = rw (length_transfers c.args.rs.now) (sym c.intervals.ensures ∙ c.in_ok-intervals.was)

pub returns-in_err-sizes : goal.returns-in_err-sizes
returns-in_err-sizes c = list_stops _ _ _ _ c.from_residual.ensures.1 (list_sizes _ _ (sym c.sizes.ensures ∙ c.in_err-sizes.was))

pub enter-requires : goal.enter-requires
enter-requires c =
    let p = (goal.at.enter-requires c).In_ok-sizes in
    let l = length-replicate 2_112 (pos 0) in
    ((fits p).few, omega (arith, l, few p))

pub returns-in_err-enter : goal.returns-in_err-enter
returns-in_err-enter c =
    let p = goal.at.returns-in_err-enter c in
    list_stops _ _ _ _ c.from_residual-in_err-enter.ensures.1 (list_records _ _ (sized p.In_ok-sizes) (sym c.enter.ensures.said ∙ c.in_err-enter.was))

pub intervals-requires : goal.intervals-requires
intervals-requires c =
    let f = fits (goal.at.intervals-requires c).In_ok-sizes in
    (omega (arith, f.right), omega (arith, f.few, f.short, length_transfers c.args.rs.now))

pub returns-in_err-intervals : goal.returns-in_err-intervals
returns-in_err-intervals c =
    let p = goal.at.returns-in_err-intervals c in
    list_stops _ _ _ _ c.from_residual-in_err-intervals.ensures.1 (list_right _ _ (sized p.In_ok-sizes) (judged p.In_ok-enter) (rw (length_transfers c.args.rs.now) (sym c.intervals.ensures ∙ c.in_err-intervals.was)))

pub overflow_mul-n : goal.overflow_mul-n
overflow_mul-n c = record { fits = omega (arith, few (goal.at.overflow_mul-n c).In_ok-sizes) }

pub overflow_mul-n-2 : goal.overflow_mul-n-2
overflow_mul-n-2 c = record { fits = omega (arith, few (goal.at.overflow_mul-n-2 c).In_ok-sizes) }

pub fill-requires : goal.fill-requires
fill-requires c =
    let p = (goal.at.fill-requires c).In_ok-sizes in
    let f = fits p in
    let l = c.enter.auto.square ∙ length-replicate 2_112 (pos 0) in
    omega (arith, l, few p, f.few, f.right)

pub solve_formed-requires : goal.solve_formed-requires
solve_formed-requires c =
    let p = goal.at.solve_formed-requires c in
    let s = lent p.In_ok-sizes in
    let r = ready _ _ (list_ready s c.args.bounds.now (sized p.In_ok-sizes) (judged p.In_ok-enter) (righted p.In_ok-intervals)) in
    (rw (copied_is s (fits p.In_ok-sizes).few c.enter.ensures c.in_ok-enter.was refl c.fill.ensures) (copied_working _ _ r), r.fitting.box)

pub returns : goal.returns
returns c =
    let p = goal.at.returns c in
    let s = lent p.In_ok-sizes in
    list_runs s c.args.bounds.now (sized p.In_ok-sizes) (judged p.In_ok-enter) (righted p.In_ok-intervals)
    (rw (copied_is s (fits p.In_ok-sizes).few c.enter.ensures c.in_ok-enter.was refl c.fill.ensures) at c.solve_formed.ensures)
