-- The accuracy rule for eliminations and sweep calls from a list: each is the square's, or a refusal that changes nothing. A refused call
-- stands for one that the square refuses, with no sweeps allowed.
use mathlib.Core.Path.{◌≡◌, refl, sym, ap, subst, ◌∙◌}
use mathlib.Core.Bool.{Bool, true, false, ◌||◌}
use mathlib.Core.List.{List, [], ◌∷◌}
use borrow.Author.Tests.{eq-eqb}
use lib.Dec.{T, eqb}
use lib.IntN.{ℤ}
use lib.ListN.{length}
use Rattle.outcome.specs.declared.Refusal.{Refusal}
use Rattle.outcome.specs.declared.Refusal.TheVariants as refusal
use Rattle.outcome.specs.Table.{number_and_place}
use Rattle.outcome.specs.Run.{Run, refused, written, ended}
use Rattle.inputs.specs.Tests.{Test, both, need, tested}
use Rattle.std.specs.Prelude.{Ok, Err}
use Rattle.inputs.specs.Tests as inputs
use Rattle.inputs.specs.System.{slices}
use Rattle.elimination.specs.Call.{over_B, run_B}
use Rattle.sweep.specs.Call.{Log, concluded, allowance}
use Rattle.sweep.specs.Call as sweep
use Rattle.sweep.specs.Calls.{Call, sweep_call, run_by, run, returned_by, sweeps_of, changes_by, any_empty_by}
use Rattle.accuracy.specs.Claim.{Accepted}
use Rattle.accuracy.proofs.Rule.{accuracy}
use Rattle.transfers.specs.Listing.{Listing, squared}
use Rattle.transfers.specs.Call.{tests, sweep_tests, run_list, over_list, allowed_of, sweep_list, call_list}
use Rattle.transfers_as_square.specs.Claim.{ListCovered}
use Rattle.transfers_as_square.proofs.Plain.{Neither, Plain, plain_tests, plain_sweep_tests, plain_input_sizes}
use Rattle.transfers_as_square.proofs.Same.{same_as_square}

-- ---- an elimination that accepted passed its tests
not_nought : (o : Refusal) → Neither o → (number_and_place (Err o)).number ≡ 0 → ⊥
not_nought o h e =
    let z : true ≡ false = rw (eq-eqb (number_and_place (Err o)).number 0 e) at h in
    subst T z tt

has_passed : (t : Test) (r : Run (List ℤ)) (X : List ℤ) → Plain t → (ended written X (tested t r)).number ≡ 0 → t ≡ Ok tt
unfolding tested ended
has_passed (Ok _) r X h e = refl
has_passed (Err o) r X h e = absurd (not_nought o h.on e)

accepted : (s : Listing) (box X : List ℤ) → Accepted (over_list s) box X → Accepted (over_B (squared s)) box X
unfolding run_list
accepted s box X a =
    let p = has_passed (tests s (length box)) (run_B _ _ (squared s) (length box)) box (plain_tests s (length box)) a.returned in
    let e = (same_as_square s).elimination box p in
    record { returned = ap (λ r. r.number) (sym e) ∙ a.returned; left = a.left ∙ ap (λ r. r.left) e }

-- ---- two runs of a call that change the box alike and say 7 alike
record Stands (a b : Run Log) (X : List ℤ) : Type 0 where
  sweeps : sweeps_of a X ≡ sweeps_of b X
  left : (ended (concluded X) X a).left ≡ (ended (concluded X) X b).left
  empty : eqb (ended (concluded X) X a).number 7 ≡ eqb (ended (concluded X) X b).number 7

no_seven : (o : Refusal) → Neither o → eqb (number_and_place (Err o)).number 7 ≡ false
no_seven o h = go (eqb (number_and_place (Err o)).number 0) (eqb (number_and_place (Err o)).number 7) h
  where
    go : (a b : Bool) → (a || b) ≡ false → b ≡ false
    go true b e = absurd (subst T e tt)
    go false b e = e

both_refused : (o p : Refusal) (X : List ℤ) → Neither o → Neither p → Stands (refused o) (refused p) X
unfolding ended
both_refused o p X h k = record { sweeps = refl; left = refl; empty = no_seven o h ∙ sym (no_seven p k) }

nought_refused : (o : Refusal) → Neither o → (X : List ℤ) (t u : Test) (r : Run Log) → Plain t → Stands (refused o) (tested (both t (both (Err refusal.Allowed) u)) r) X
unfolding tested both
nought_refused o h X (Ok _) u r k = both_refused o refusal.Allowed X h refl
nought_refused o h X (Err p) u r k = both_refused o p X h k.on

module _ (s : Listing) where
  -- with no sweeps allowed, the square's call is refused
  refused_both : (o : Refusal) → Neither o → (X : List ℤ) → Stands (refused o) (run (squared s) (sweep_call 0) X) X
  unfolding run_by sweep.tests allowance need
  refused_both o h X = nought_refused o h X (inputs.sizes s.size (slices (squared s) (length X))) _ _ (plain_input_sizes _ _)

  -- the square's call that a call stands for, by what the list's tests say
  abbrev stand_in : Test → Call → Call
  stand_in (Ok _) c = c
  stand_in (Err o) c = sweep_call 0

  stands : (t : Test) → Plain t → (c : Call) (X : List ℤ) → Stands (tested t (run (squared s) c X)) (run (squared s) (stand_in t c) X) X
  unfolding tested
  stands (Ok _) h c X = record { sweeps = refl; left = refl; empty = refl }
  stands (Err o) h c X = refused_both o h.on X

  abbrev stand_ins : List Call → List ℤ → List Call
  stand_ins [] X = []
  stand_ins (c ∷ cs) X = stand_in (sweep_tests s (allowed_of c) X) c ∷ stand_ins cs (call_list s c X).left

  call_stands : (c : Call) (X : List ℤ) → Stands (sweep_list s c X) (run (squared s) (stand_in (sweep_tests s (allowed_of c) X) c) X) X
  unfolding sweep_list
  call_stands c X = stands (sweep_tests s (allowed_of c) X) (plain_sweep_tests s (allowed_of c) X) c X

  same_changes : (cs : List Call) (X : List ℤ) → changes_by (sweep_list s) cs X ≡ changes_by (run (squared s)) (stand_ins cs X) X
  unfolding changes_by returned_by
  same_changes [] X = refl
  same_changes (c ∷ cs) X =
      let e = call_stands c X in
      rw (e.sweeps, ← e.left, same_changes cs (call_list s c X).left)

  same_empty : (cs : List Call) (X : List ℤ) → any_empty_by (sweep_list s) cs X ≡ any_empty_by (run (squared s)) (stand_ins cs X) X
  unfolding any_empty_by returned_by
  same_empty [] X = refl
  same_empty (c ∷ cs) X =
      let e = call_stands c X in
      rw (e.empty, ← e.left, same_empty cs (call_list s c X).left)

pub list_covered : ListCovered
list_covered s =
    record {
      accepted = accepted s;
      swept = λ X start calls. rw (same_changes s calls X, same_empty s calls X) (accuracy (squared s) X start (stand_ins s calls X));
    }
