use mathlib.Core.Path.{◌≡◌, sym, ap, ap₂, ◌∙◌}
use mathlib.Core.Bool.{true}
use lib.IntN.{ℤ, pos, ◌-ℤ◌}
use lib.Signed.{◌≤ℤ◌, ◌<ℤ◌}
use mir.Syntax.{w64}
use mir.Val.{SFits, to_z, of_z}
use mir.ValLaws.{to_z-of_z}
use Rattle.outcome.specs.Run.{done}
use Rattle.integer.specs.Rounding.{ceil_div}
use Rattle.integer.proofs.Machine.{plain}
use Rattle.interval.specs.Interval.{scale, within}
use Rattle.interval.proofs.Range.{is_within, product_fits, scale_within, scaled_read}
use Rattle.start_box.specs.Reach.{quotient}
use Rattle.start_box.proofs.Reach.{divided_high, divided_is, gap_fits, gap_above}
use Rattle.start_box.proofs.internal.reach.divided.Goals.{After-within, After-within-then-within}
use Rattle.start_box.proofs.internal.reach.divided.Goals as goal

-- the test of the dividend
p_test : (c : After-within) → c.within.result ≡ within c.args.p
p_test c = c.within.ensures ∙ ap within (to_z-of_z w64 _ c.ranges.p)

p_in : (c : After-within) → c.within.result ≡ true → within c.args.p ≡ true
p_in c e = sym (p_test c) ∙ e

pub overflow_mul-p : goal.overflow_mul-p
unfolding scale
overflow_mul-p c = rw (to_z-of_z w64 _ c.ranges.p) (product_fits (is_within _ (p_in (goal.at.overflow_mul-p c).After-within c.if-within.true)) scale_within)

-- one minus the sum
gap : {z : ℤ} → SFits w64 z → (pos 0 ≤ℤ z) × (z <ℤ scale) → to_z w64 (of_z w64 (pos 1000000 -ℤ to_z w64 (of_z w64 z))) ≡ scale -ℤ z
unfolding scale
gap f h = rw (to_z-of_z w64 _ f) (to_z-of_z w64 _ (gap_fits h.0 h.1))

pub ceil_div-q-requires : goal.ceil_div-q-requires
ceil_div-q-requires c = rw (gap c.ranges.sum c.requires) (gap_above c.requires.1)

-- the quotient, and its test
q_is : (c : After-within-then-within) → c.ceil_div-q.result ≡ quotient c.args.p c.args.sum
unfolding scale quotient
q_is c =
    c.ceil_div-q.ensures ∙ ap₂ ceil_div (scaled_read (is_within _ (sym (c.within.ensures ∙ ap within (to_z-of_z w64 _ c.ranges.p)) ∙ c.if-within.true))) (gap c.ranges.sum c.requires)

q_test : (c : After-within-then-within) → c.within-then-within.result ≡ within (quotient c.args.p c.args.sum)
q_test c = c.within-then-within.ensures ∙ ap within (plain _ c.ceil_div-q.type_inv ∙ q_is c)

pub returns-then-within-2 : goal.returns-then-within-2
returns-then-within-2 c =
    let p = goal.at.returns-then-within-2 c in
    let q = p.After-within-then-within in
    ap done (plain _ c.ceil_div-q.type_inv ∙ q_is q) ∙ divided_is _ _ (p_in p.After-within c.if-within.true) (sym (q_test q) ∙ c.if-within-2.true)

pub returns-else-within-2 : goal.returns-else-within-2
returns-else-within-2 c =
    let p = goal.at.returns-else-within-2 c in
    divided_high _ _ (p_in p.After-within c.if-within.true) (sym (q_test p.After-within-then-within) ∙ c.if-within-2.false)
