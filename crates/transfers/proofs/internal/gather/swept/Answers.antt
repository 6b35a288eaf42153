use Rattle.std.proofs.Common.{ap, ◌∙◌}
use Rattle.transfers.specs.Listing.{listing}
use Rattle.transfers.specs.Call.{call_list}
use Rattle.transfers.specs.Code.{of_way}
use Rattle.transfers.proofs.Sizes.{sizes_overlong}
use Rattle.transfers.proofs.Call.{call_sizes}
use Rattle.transfers.proofs.Gathered.{list_again}
use Rattle.transfers.proofs.internal.gather.swept.Goals as goal

pub returns-in-Err : goal.returns-in-Err
returns-in-Err c =
    let l = c.in-Err.ensures.long in
    call_sizes _ c.args.way _ _ (sizes_overlong _ _ l.1 l.0)

pub returns : goal.returns
returns c =
    c.swept_records.ensures ∙ ap (λ l. call_list (listing c.args.n l c.args.b.now) (of_way c.args.way c.args.allowed) c.args.bounds.now) (list_again c.args.ts.now _ _ c.gather.ensures)
