use mathlib.Core.Path.{refl, sym}
use mathlib.Core.Logic.{inl, inr}
use mir.Syntax.{w64}
use mir.ValLaws.{to_z-of_z}
use Rattle.integer.proofs.Order.{lt_le, taken, left, mono, anti}
use Rattle.integer.proofs.Extremes.{max_is_left, max_is_right}
use Rattle.interval.proofs.internal.product.greatest_end.Goals as goal

pub returns-then-z-lt0 : goal.returns-then-z-lt0
returns-then-z-lt0 c =
    rw (to_z-of_z w64 c.args.a c.ranges.a)
    (record { one = inl refl; is = sym (max_is_left (anti _ _ c.args.z (lt_le (taken _ _ (rw (to_z-of_z w64 c.args.z c.ranges.z) at c.if-z-lt0.true))) c.requires)) })

pub returns : goal.returns
returns c =
    rw (to_z-of_z w64 c.args.b c.ranges.b)
    (record { one = inr refl; is = sym (max_is_right (mono _ _ c.args.z (left _ _ (rw (to_z-of_z w64 c.args.z c.ranges.z) at c.if-z-lt0.false)) c.requires)) })
