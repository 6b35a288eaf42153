use mathlib.Core.Path.{ap₂, ◌∙◌}
use borrow.Author.Rules.{rules}
use Rattle.integer.proofs.Extremes.{max_is}
use Rattle.integer.specs.Extremes.{maximum}
use Rattle.integer.proofs.Machine.{plain}
use Rattle.interval.proofs.Range.{is_sound, turn_fits, read}
use Rattle.start_box.proofs.Magnitude.{turned_read, magnitude_is}
use Rattle.start_box.proofs.internal.sums.magnitude.Goals as goal

pub overflow_sub-v : goal.overflow_sub-v
overflow_sub-v c = let h = is_sound _ c.requires in search (rules, turn_fits)

pub returns : goal.returns
returns c =
    let e = c.requires in
    let h = is_sound _ e in
    plain _ c.max.type_inv ∙ c.max.ensures.value ∙ max_is _ _ ∙ ap₂ maximum (turned_read h.lo_in) (read h.hi_in) ∙ magnitude_is _ e
