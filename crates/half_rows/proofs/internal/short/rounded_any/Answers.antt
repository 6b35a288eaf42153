use mathlib.Core.Path.{◌≡◌, ◌∙◌}
use borrow.Author.Rules.{rules}
use mir.Syntax.{w64}
use mir.Val.{SFits}
use mir.ValLaws.{to_z-of_z}
use Rattle.interval.specs.Interval.{scale, rounded}
use Rattle.wide_sum.specs.Wide.{held_both}
use Rattle.half_rows.proofs.Short.{floor_handy, ceil_handy}
use Rattle.half_rows.proofs.internal.short.rounded_any.Goals as goal

pub returns-in-Some-Some : goal.returns-in-Some-Some
unfolding rounded held_both scale
returns-in-Some-Some c =
    let s = c.in-Some-Some in
    let l : SFits w64 s.lo = search rules in
    let h : SFits w64 s.hi = search rules in
    let e : c.rounded.result ≡ rounded scale (record { lo = s.lo; hi = s.hi }) =
    c.rounded.ensures ∙ (λ i. rounded scale (record { lo = to_z-of_z w64 s.lo l i; hi = to_z-of_z w64 s.hi h i })) in (
      e ∙ (λ i. rounded scale (record { lo = s.ensures {u = tt} i; hi = s.ensures' {u = tt} i })),
      rw e (floor_handy _ l),
      rw e (ceil_handy _ h),
    )
