use borrow.Author.Rules.{rules}
use lib.IntN.{+ℤ_idl}
use Rattle.interval.proofs.Range.{is_sound, turn_fits}
use Rattle.interval.proofs.internal.quotient.negation.Goals as goal

pub overflow_sub-lo : goal.overflow_sub-lo
overflow_sub-lo c = let h = is_sound _ c.requires in search (rules, turn_fits)

pub overflow_sub-hi : goal.overflow_sub-hi
overflow_sub-hi c = let h = is_sound _ c.requires in search (rules, turn_fits)

pub returns : goal.returns
returns c = let h = is_sound _ c.requires in search (rules, turn_fits, +ℤ_idl)
