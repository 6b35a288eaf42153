use mathlib.Core.Path.{sym, ◌∙◌}
use Rattle.inputs.proofs.Place.{proper_sound}
use Rattle.half_rows.proofs.Shares.{not_proper, is_proper, sound_shares}
use Rattle.half_rows.proofs.internal.tested.any_sum.Goals as goal

pub returns-in_err-ok : goal.returns-in_err-ok
returns-in_err-ok c =
    rw c.from_residual.ensures (not_proper _ _ c.intervals.ensures (sym c.ok.ensures.value ∙ c.in_err-ok.was {u = tt}))

pub invariant_of-products-clause-sound : goal.invariant_of-products-clause-sound
invariant_of-products-clause-sound c =
    (proper_sound _ _ 0 c.requires.g_len.0 (is_proper _ _ c.intervals.ensures (sym c.ok.ensures.value ∙ c.in_ok-ok.was {u = tt})), c.requires.g_len.1)

pub returns : goal.returns
returns c =
    (sound_shares _ _ (proper_sound _ _ 0 c.requires.g_len.0 (is_proper _ _ c.intervals.ensures (sym c.ok.ensures.value ∙ c.in_ok-ok.was {u = tt}))), c.added_to.ensures)
