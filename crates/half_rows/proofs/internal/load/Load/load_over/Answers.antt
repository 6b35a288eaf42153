use native.Mathlib.Omega.{arith}
use Rattle.inputs.specs.System.{system}
use Rattle.half_rows.proofs.State.{sums_end}
use Rattle.half_rows.proofs.Loaded.{loaded_over_lem}
use Rattle.half_rows.proofs.internal.load.Load.load_over.Goals as goal

pub copy_out-requires : goal.copy_out-requires
copy_out-requires c = omega (arith, sums_end, c.args.self.ready.few)

pub returns : goal.returns
returns c =
    let s = c.args.self in
    loaded_over_lem c.args.t.now (system s.n s.matrix.now s.right.now) s.bounds.now c.sums_place.ensures c.requires c.copy_out.ensures c.right_sums.ensures c.put_system.ensures c.commit.ensures
