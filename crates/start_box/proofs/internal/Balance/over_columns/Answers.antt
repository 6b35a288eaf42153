use mathlib.Core.Path.{◌≡◌, ap₂, ◌∙◌}
use lib.IntN.{pos}
use mir.Syntax.{w64}
use mir.Val.{to_z, of_z}
use Rattle.integer.proofs.Machine.{plain}
use Rattle.interval.proofs.Range.{scale_above}
use Rattle.start_box.specs.Sums.{column_sum, greatest}
use Rattle.start_box.specs.Reach.{coefficients}
use Rattle.start_box.specs.Code.{system_of}
use Rattle.start_box.proofs.Sums.{greatest_below, greatest_first}
use Rattle.start_box.proofs.internal.Balance.over_columns.Goals.{After-greatest-s}
use Rattle.start_box.proofs.internal.Balance.over_columns.Goals as goal

-- the greatest column sum, as the code has it
sum_is : (c : After-greatest-s) → let s = system_of c.args.self.now in to_z w64 (of_z w64 c.greatest-s.result) ≡ greatest (column_sum (coefficients s) s.size) s.size 0 (pos 0)
sum_is c = plain _ c.greatest-s.type_inv ∙ c.greatest-s.ensures ∙ ap₂ (λ f n. greatest f n 0 (pos 0)) c.column_sums.ensures.sums c.column_sums.ensures.count

pub divided-requires : goal.divided-requires
divided-requires c = rw (sum_is c) (greatest_first _ _ 0 (pos 0), greatest_below _ _ 0 (pos 0) c.requires scale_above)
