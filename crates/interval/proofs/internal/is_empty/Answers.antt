use mir.Syntax.{w64}
use mir.Val.{SFits}
use mir.ValLaws.{to_z-of_z}
use borrow.Author.Rules.{rules}
use Rattle.interval.specs.Interval.{is_empty}
use Rattle.interval.proofs.internal.is_empty.Goals as goal

pub returns : goal.returns
unfolding is_empty
returns c =
    let v = c.args.v in
    let l : SFits w64 v.lo = search rules in
    let h : SFits w64 v.hi = search rules in
    rw (to_z-of_z w64 v.hi h, to_z-of_z w64 v.lo l)
