use mathlib.Core.Path.{◌≡◌, sym, ap, ◌∙◌}
use Prim.Native.Nat.{◌^◌, ◌<◌}
use borrow.Author.Rules.{rules}
use mir.Syntax.{w64}
use mir.Val.{SFits, to_z}
use mir.ValLaws.{to_z-of_z}
use Rattle.half_rows.proofs.Short.{one_word_below, one_word_above}
use Rattle.half_rows.proofs.internal.short.short.Goals as goal
use Rattle.half_rows.proofs.internal.short.short.Goals.{then-low-lt0, else-low-lt0}

pub returns-then-w-sign : goal.returns-then-w-sign
returns-then-w-sign c =
    let w = c.args.w in
    let f : SFits w64 w.high = search rules in
    let k : w.low < 2 ^ 64 = search rules in
    let e : w.high ≡ to_z w64 c.if-low-lt0.sign-bits = sym (to_z-of_z w64 w.high f) ∙ ap (to_z w64) c.if-w-sign.true in
    elim c.if-low-lt0.branch [
      | then-low-lt0 b ↦ one_word_below w k c.cast_signed-low.ensures b.if-low-lt0.true (e ∙ b.sign-is)
      | else-low-lt0 b ↦ one_word_above w k c.cast_signed-low.ensures b.if-low-lt0.false (e ∙ b.sign-is)
    ]
