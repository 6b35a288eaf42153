-- Tests that pass together, or fail with the same number and, but for 3, at the same place.
use mathlib.Core.Path.{◌≡◌, refl, sym, ◌∙◌}
use mathlib.Core.Bool.{Bool, true, false}
use mathlib.Core.Logic.{◌≢◌}
use mathlib.Core.List.{List, [], ◌∷◌}
use Prim.Native.Nat.{ℕ, zero, suc, ◌+◌}
use lib.IntN.{ℤ}
use Rattle.outcome.specs.declared.Refusal.{Refusal}
use Rattle.outcome.specs.declared.Refusal.TheVariants as refusal
use Rattle.outcome.specs.Table.{number_and_place}
use Rattle.outcome.specs.Run.{Run, Returned, ended}
use Rattle.interval.specs.Interval.{acceptable}
use Rattle.inputs.specs.Tests.{Test, both, need, proper, Part, all_proper, tested}
use Rattle.std.specs.Prelude.{Ok, Err}
use Rattle.inputs.specs.Place.{at}
use Rattle.inputs.proofs.Tests.{never}
use Rattle.transfers.specs.Listing.{tried}
use Rattle.transfers_as_square.specs.Claim.{Agree}

record Like (o p : Refusal) : Type 0 where
  number : (number_and_place (Err o)).number ≡ (number_and_place (Err p)).number
  place : (number_and_place (Err o)).number ≢ 3 → (number_and_place (Err o)).place ≡ (number_and_place (Err p)).place

abbrev OnTests : Test → Test → Type 0
OnTests (Ok _) (Ok _) = Unit {0}
OnTests (Ok _) (Err p) = ⊥
OnTests (Err o) (Ok _) = ⊥
OnTests (Err o) (Err p) = Like o p

pub record Alike (t u : Test) : Type 0 where
  on : OnTests t u

pub alike_self : (t : Test) → Alike t t
alike_self (Ok _) = record { on = tt }
alike_self (Err o) = record { on = record { number = refl; place = λ h. refl } }

pub alike_both : {v w : Test} (t u : Test) → Alike t u → Alike v w → Alike (both t v) (both u w)
unfolding both
alike_both (Ok _) (Ok _) a b = b
alike_both (Ok _) (Err p) a b = absurd a.on
alike_both (Err o) (Ok _) a b = absurd a.on
alike_both (Err o) (Err p) a b = record { on = a.on }

-- ---- test 3, wherever its positions are counted from
alike_ends : (b : Bool) (i j : ℕ) → Alike (need b (refusal.Ends i)) (need b (refusal.Ends j))
unfolding need
alike_ends true i j = record { on = tt }
alike_ends false i j = record { on = record { number = refl; place = λ h. absurd (h refl) } }

alike_proper : (t : List ℤ) (d p i j : ℕ) → Alike (proper t d p i) (proper t d p j)
unfolding proper
alike_proper t zero p i j = record { on = tt }
alike_proper t (suc d) p i j = alike_both _ _ (alike_ends (acceptable (at t p)) (i + p) (j + p)) (alike_proper t d (p + 1) i j)

pub alike_all : (ps : List Part) (i j : ℕ) → Alike (all_proper i ps) (all_proper j ps)
unfolding all_proper
alike_all [] i j = record { on = tt }
alike_all (p ∷ ps) i j = alike_both _ _ (alike_proper p.numbers p.count 0 i j) (alike_all ps (i + p.count) (j + p.count))

-- ---- two tests that fail with 3 alone, and pass together
abbrev OnThree : Test → Type 0
OnThree (Ok _) = Unit {0}
OnThree (Err o) = (number_and_place (Err o)).number ≡ 3

pub record Three (t : Test) : Type 0 where
  on : OnThree t

three_both : {u : Test} (t : Test) → Three t → Three u → Three (both t u)
unfolding both
three_both (Ok _) a b = b
three_both (Err o) a b = record { on = a.on }

three_need : (b : Bool) (i : ℕ) → Three (need b (refusal.Ends i))
unfolding need
three_need true i = record { on = tt }
three_need false i = record { on = refl }

pub three_tried : (p : ℕ → Bool) (d k : ℕ) → Three (tried p refusal.Ends d k)
unfolding tried
three_tried p zero k = record { on = tt }
three_tried p (suc d) k = three_both _ (three_need (p k) k) (three_tried p d (k + 1))

pub three_proper : (t : List ℤ) (d p from : ℕ) → Three (proper t d p from)
unfolding proper
three_proper t zero p from = record { on = tt }
three_proper t (suc d) p from = three_both _ (three_need (acceptable (at t p)) (from + p)) (three_proper t d (p + 1) from)

pub alike_threes : (t u : Test) → Three t → Three u → (t ≡ Ok tt → u ≡ Ok tt) → (u ≡ Ok tt → t ≡ Ok tt) → Alike t u
alike_threes (Ok _) (Ok _) a b f g = record { on = tt }
alike_threes (Ok _) (Err p) a b f g = never p (f refl)
alike_threes (Err o) (Ok _) a b f g = never o (g refl)
alike_threes (Err o) (Err p) a b f g = record { on = record { number = a.on ∙ sym b.on; place = λ h. absurd (h a.on) } }

-- ---- a call that has one more such test before its own
pub agrees : {A : Type 0} (f : A → Returned (List ℤ)) (X : List ℤ) (t u : Test) (r : Run A) → Alike t u → Agree (ended f X (tested t (tested u r))) (ended f X (tested u r))
unfolding tested ended
agrees f X (Ok _) u r a = record { number = refl; place = λ h. refl; count = refl; left = refl }
agrees f X (Err o) (Ok _) r a = absurd a.on
agrees f X (Err o) (Err p) r a = record { number = a.on.number; place = a.on.place; count = refl; left = refl }
