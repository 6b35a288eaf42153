use mathlib.Core.Path.{ap₂, ◌∙◌}
use Prim.Native.Nat.{◌*◌}
use native.Mathlib.Omega.{arith}
use lib.Bits.{bit_xor, and_le_r}
use Rattle.search.proofs.Lanes.{lanes, eight_sought, eight_lanes, marks_are}
use Rattle.search.proofs.internal.marks.marks.Goals as goal

pub overflow_add-y : goal.overflow_add-y
overflow_add-y c = omega (arith, and_le_r (bit_xor c.word.result (c.args.b * 72340172838076673)) 9187201950435737471)

pub returns : goal.returns
returns c =
    let s = c.args in
    eight_lanes (bit_xor c.word.result (s.b * 72340172838076673)) ∙
    ap₂ (λ w o. lanes 8 (bit_xor w o)) c.word.ensures (eight_sought s.b) ∙
    marks_are s.s.now (λ j. omega (arith, c.type_inv.s j)) s.b (omega (arith, c.ranges.b)) s.i 8
