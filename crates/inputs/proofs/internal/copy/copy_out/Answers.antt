use Rattle.std.proofs.Common.{rules, arith, pos, ◌+◌, slice_index_or, w64}
use mir.Val.{SFits}
use mir.ValLaws.{to_z-of_z}
use lib.ListN.{length-set}
use Rattle.inputs.proofs.Copy.{out_more}
use Rattle.inputs.proofs.internal.copy.copy_out.Goals as goal

pub loop-i-preserved : goal.loop-i-preserved
loop-i-preserved c =
    let v = c.loop-i.invariant in
    let f : SFits w64 (slice_index_or c.args.t.now (c.args.from + c.loop-i.i) (pos 0)) = search rules in
    record {
      inside = omega arith;
      room = simp length-set v.room;
      so_far = out_more _ _ _ _ c.requires v.so_far (to_z-of_z w64 _ f) c.loop-i-test.true;
    }
