use mathlib.Core.Path.{◌≡◌, sym, ap, ◌∙◌}
use mathlib.Core.Bool.{true}
use Rattle.interval.specs.Interval.{acceptable}
use Rattle.inputs.specs.Place.{at}
use Rattle.half_rows.proofs.Shares.{one_share, all_sound}
use Rattle.half_rows.proofs.internal.tested.next_single.Goals as goal
use Rattle.half_rows.proofs.internal.tested.next_single.Goals.{Else-not-is_acceptable}

accepted : (c : Else-not-is_acceptable) → acceptable (at c.args.g.now 0) ≡ true
accepted c = sym (c.is_acceptable.ensures ∙ ap acceptable c.read.ensures) ∙ c.if-not-is_acceptable.false

pub invariant_of-single-clause-sound : goal.invariant_of-single-clause-sound
invariant_of-single-clause-sound c = (all_sound _ 1 c.requires.g_len.0 (one_share _ (accepted (goal.at.invariant_of-single-clause-sound c).Else-not-is_acceptable)), c.requires.g_len.1)
