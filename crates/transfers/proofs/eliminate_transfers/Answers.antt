use Rattle.std.proofs.Common.{ap, ◌∙◌}
use Rattle.transfers.specs.Listing.{listing}
use Rattle.transfers.specs.Call.{over_list}
use Rattle.transfers.proofs.Sizes.{sizes_overlong}
use Rattle.transfers.proofs.Call.{list_sizes, list_stops}
use Rattle.transfers.proofs.Gathered.{list_again}
use Rattle.transfers.proofs.eliminate_transfers.Goals as goal

pub returns-in_err-few_enough : goal.returns-in_err-few_enough
returns-in_err-few_enough c =
    let l = c.in_err-few_enough.ensures.long in
    list_stops _ _ _ _ c.from_residual.ensures.1 (list_sizes _ _ (sizes_overlong _ _ l.1 l.0))

pub returns : goal.returns
returns c = c.eliminate_records.ensures ∙ ap (λ l. over_list (listing c.args.n l c.args.b.now) c.args.bounds.now) (list_again c.args.ts.now _ _ c.gather.ensures)
