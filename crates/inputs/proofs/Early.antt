-- What fails before the calculation does so with one of the numbers 1 to 4.
use mathlib.Core.Path.{◌≡◌, subst}
use mathlib.Core.Bool.{Bool, true, false, ◌&&◌}
use mathlib.Core.List.{List, [], ◌∷◌}
use Prim.Native.Nat.{ℕ, zero, suc, ◌+◌, ◌≤◌}
use borrow.Author.Tests.{leb-true}
use lib.Dec.{leb}
use lib.IntN.{ℤ}
use Rattle.outcome.specs.declared.Refusal.{Refusal}
use Rattle.outcome.specs.Table.{number_and_place}
use Rattle.interval.proofs.Range.{and_both}
use Rattle.inputs.specs.declared.Slice.{Slice}
use Rattle.inputs.specs.Tests.{Test}
use Rattle.std.specs.Prelude.{Ok, Err}
use Rattle.inputs.specs.System.{System, tests}
use Rattle.inputs.specs.Tests.{both, need, sized, lengths, sizes, proper, Part, all_proper}

abbrev First : Refusal → Type 0
First o = (leb 1 (number_and_place (Err o)).number && leb (number_and_place (Err o)).number 4) ≡ true

abbrev OnTest : Test → Type 0
OnTest (Ok tt) = Unit
OnTest (Err o) = First o

-- it is a record so that a search goes by the parts of the test and computes none of them
pub record Early (t : Test) : Type 0 where
  where_failed : OnTest t

pub early_pass : Early (Ok tt)
early_pass = record { where_failed = tt }

pub early_need : (b : Bool) (o : Refusal) → First o → Early (need b o)
unfolding need
early_need true o h = early_pass
early_need false o h = record { where_failed = h }

pub early_both : (t u : Test) → Early t → Early u → Early (both t u)
unfolding both
early_both (Ok _) u h k = k
early_both (Err o) u h k = h

pub ruleset parts = (early_pass, early_need, early_both)

early_lengths : (ss : List Slice) → Early (lengths ss)
unfolding lengths
early_lengths [] = search parts
early_lengths (s ∷ ss) = early_both _ _ (search parts) (early_lengths ss)

pub early_sizes : (n : ℕ) (ss : List Slice) → Early (sizes n ss)
unfolding sizes sized
early_sizes n ss = search (parts, early_lengths)

early_proper : (t : List ℤ) (d p from : ℕ) → Early (proper t d p from)
unfolding proper
early_proper t zero p from = search parts
early_proper t (suc d) p from = search (parts, early_proper t d)

pub early_all : (from : ℕ) (ps : List Part) → Early (all_proper from ps)
unfolding all_proper
early_all from [] = search parts
early_all from (p ∷ ps) = early_both _ _ (search early_proper) (early_all (from + p.count) ps)

pub early_tests : (s : System) (l : ℕ) → Early (tests s l)
unfolding tests
early_tests s l = search (early_both, early_sizes, early_all)

pub early_number : {t : Test} {o : Refusal} → Early t → t ≡ Err o → (1 ≤ (number_and_place (Err o)).number) × ((number_and_place (Err o)).number ≤ 4)
early_number {o = o} h e =
    let b = and_both _ _ (subst Early e h).where_failed in
    (leb-true 1 (number_and_place (Err o)).number b.0, leb-true (number_and_place (Err o)).number 4 b.1)
