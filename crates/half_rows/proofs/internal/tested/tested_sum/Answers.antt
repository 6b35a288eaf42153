use Rattle.std.specs.Prelude.{Some, None}
use Rattle.half_rows.proofs.Shares.{whole_tested}
use Rattle.half_rows.proofs.internal.tested.tested_sum.Goals as goal

pub returns-then-not-above : goal.returns-then-not-above
returns-then-not-above c = let s = c.args in whole_tested s.acc s.h.now s.p s.x.now s.q s.d c.any_sum.result c.any_sum.ensures

pub returns-in-Some-any_sum_after : goal.returns-in-Some-any_sum_after
returns-in-Some-any_sum_after c =
    let s = c.args in whole_tested s.acc s.h.now s.p s.x.now s.q s.d (Some c.in-Some-any_sum_after.s) c.in-Some-any_sum_after.ensures

pub returns-in-None : goal.returns-in-None
returns-in-None c = let s = c.args in whole_tested s.acc s.h.now s.p s.x.now s.q s.d None c.in-None.ensures
