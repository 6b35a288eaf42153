use mathlib.Core.Path.{◌≡◌, ap, ◌∙◌}
use lib.Signed.{le_z_yes}
use Rattle.integer.proofs.Order.{trans}
use Rattle.start_box.specs.Sums.{magnitude}
use Rattle.start_box.specs.Reach.{coefficients, constants}
use Rattle.start_box.specs.Code.{system_of}
use Rattle.start_box.proofs.Reach.{entry_next, times_term, product_safe, product_next}
use Rattle.start_box.proofs.internal.Balance.row_totals.Goals.{After-magnitude-b}
use Rattle.start_box.proofs.internal.Balance.row_totals.Goals as goal

-- the two magnitudes of a turn
entry : (c : After-magnitude-b) → c.magnitude-a.result ≡ coefficients (system_of c.args.self.now) c.args.i c.loop-j.j
entry c = c.magnitude-a.ensures ∙ ap magnitude c.read.ensures

constant : (c : After-magnitude-b) → c.magnitude-b.result ≡ constants (system_of c.args.self.now) c.loop-j.j
constant c = c.magnitude-b.ensures ∙ ap magnitude c.read-in-loop-j.ensures

pub scaled_up-dividend-requires : goal.scaled_up-dividend-requires
scaled_up-dividend-requires c =
    let p = (goal.at.scaled_up-dividend-requires c).After-magnitude-b in
    let s = c.args.self.now in
    let t = times_term s.square s.tested c.args.i c.loop-j.j c.loop-j-test.true (entry p) (constant p) in
    record { negsuc_bound = trans (le_z_yes tt) t.above; p_bound = t.at_most }

pub overflow_add-dividend : goal.overflow_add-dividend
overflow_add-dividend c =
    let p = (goal.at.overflow_add-dividend c).After-magnitude-b in
    let s = c.args.self.now in
    product_safe s.square s.tested c.args.i c.loop-j.j c.loop-j-test.true (entry p) (constant p) c.scaled_up-dividend.ensures c.loop-j.invariant.1

pub loop-j-preserved : goal.loop-j-preserved
loop-j-preserved c =
    let p = (goal.at.loop-j-preserved c).After-magnitude-b in
    let s = c.args.self.now in
    let t = c.loop-j-test.true in
    (entry_next s.square s.tested c.args.i c.loop-j.j t (entry p) c.loop-j.invariant.0, product_next s.square s.tested c.args.i c.loop-j.j t (entry p) (constant p) c.scaled_up-dividend.ensures c.loop-j.invariant.1)
