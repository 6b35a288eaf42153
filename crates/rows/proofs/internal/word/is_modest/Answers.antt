use mathlib.Core.Path.{sym, subst}
use lib.Dec.{T}
use borrow.Author.Rules.{rules}
use mir.Syntax.{w64}
use mir.Val.{SFits}
use mir.ValLaws.{to_z-of_z}
use Rattle.rows.proofs.Word.{modest_is}
use Rattle.rows.proofs.internal.word.is_modest.Goals as goal

pub returns-then-a-lt0 : goal.returns-then-a-lt0
returns-then-a-lt0 c = λ e. absurd (subst T (sym e) tt)

pub returns-then-a : goal.returns-then-a
returns-then-a c = λ e. absurd (subst T (sym e) tt)

pub returns : goal.returns
returns c =
    let v = c.args.a in
    let l : SFits w64 v.lo = search rules in
    let h : SFits w64 v.hi = search rules in
    λ e. modest_is v (rw (to_z-of_z w64 v.lo l) at c.if-a-lt0.false) (rw (to_z-of_z w64 v.hi h, to_z-of_z w64 v.lo l) at c.if-a.false) (rw (to_z-of_z w64 v.hi h) at e)
