use Rattle.std.proofs.Common.{arith}
use Rattle.sweep.proofs.Tests.{ready as system_ready}
use Rattle.transfers.specs.Listing.{Listing, listing, squared, transfers_of}
use Rattle.transfers.proofs.Records.{length_transfers}
use Rattle.transfers.proofs.Call.{SweepReady, sweep_ready, call_fails, call_runs}
use Rattle.transfers.proofs.internal.calls.swept_records.Goals as goal
use Rattle.transfers.proofs.internal.calls.swept_records.Goals.{In-Ok}

-- ---- what the tests say when they pass
abbrev lent : In-Ok → Listing
lent c = listing c.args.n (transfers_of c.args.rs.now) c.args.b.now

told : (c : In-Ok) → SweepReady (lent c) c.args.allowed c.args.bounds.now
told c = sweep_ready _ _ _ c.in-Ok.ensures.0

pub are_above-requires : goal.are_above-requires
are_above-requires c =
    let t = told (goal.at.are_above-requires c).In-Ok in
    let f = t.fitting in
    (f.box, f.few, (system_ready _ _ _ t.tests).box_sound)

pub invariant_of-rows : goal.invariant_of-rows
invariant_of-rows c =
    let p = (goal.at.invariant_of-rows c).In-Ok in
    let f = (told p).fitting in
    record {
      few = f.few;
      list = omega (arith, f.short, length_transfers c.args.rs.now);
      range = c.in-Ok.ensures.2;
      rows = c.in-Ok.ensures.1;
    }

pub run-requires : goal.run-requires
run-requires c =
    let p = (goal.at.run-requires c).In-Ok in
    record { ready = system_ready (squared (lent p)) _ _ (told p).tests; signs = c.are_above.ensures }

pub returns-in-Ok : goal.returns-in-Ok
returns-in-Ok c =
    let p = (goal.at.returns-in-Ok c).In-Ok in
    call_runs (lent p) _ c.args.way _ c.in-Ok.ensures.0 c.run.ensures

pub returns-in-Err : goal.returns-in-Err
returns-in-Err c = call_fails _ _ c.args.way _ c.in-Err.ensures
