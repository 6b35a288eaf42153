use Prim.Native.Nat.{◌+◌}
use borrow.Author.Rules.{rules}
use lib.IntN.{pos}
use lib.ListN.{get_or}
use mir.Syntax.{w64}
use mir.Val.{SFits}
use mir.ValLaws.{to_z-of_z}
use Rattle.kept_sums.proofs.Words.{end_read, lifted_is}
use Rattle.kept_sums.proofs.internal.read_end.Goals as goal

pub returns : goal.returns
returns c =
    let f : SFits w64 (get_or c.args.s.now c.args.p (pos 0)) = search rules in
    let g : SFits w64 (get_or c.args.s.now (c.args.p + 1) (pos 0)) = search rules in
    end_read c.args.s.now _ c.requires.1 (to_z-of_z w64 _ f) (lifted_is _ g c.abs_diff.ensures)
