-- An elimination with numerators rounded once, beside the former one: tests, I − B and forward part are the same run in both, so only
-- back-substitution tells them apart.
use mathlib.Core.Path.{◌≡◌, refl, ap}
use mathlib.Core.List.{List}
use Prim.Native.Nat.{ℕ}
use native.Mathlib.Omega.{arith}
use native.Mathlib.Nat.{le_refl}
use lib.IntN.{ℤ}
use lib.ListN.{length}
use Rattle.outcome.specs.declared.Refusal.{Refusal}
use Rattle.outcome.specs.Run.{Run, refused, done, and_then, Returned, written, ended}
use Rattle.inputs.specs.Tests.{Test}
use Rattle.std.specs.Prelude.{Ok, Err}
use Rattle.inputs.specs.Tests.{tested}
use Rattle.inputs.specs.System.{System, tests}
use Rattle.inputs.proofs.System.{ready}
use Rattle.rows.specs.Sum.{once, singly}
use Rattle.forward.specs.Pivot.{lowest_row}
use Rattle.forward.specs.Forward.{table, forward}
use Rattle.forward.specs.Formed.{formed_rows}
use Rattle.forward.specs.Code.{Working}
use Rattle.elimination.specs.Back.{back}
use Rattle.elimination.specs.Call.{copied, box, none_taken, solved, run_A, run_B, ended_A, ended_B}
use Rattle.elimination.proofs.Call.{copied_working}
use Rattle.accuracy.specs.Claim.{Narrowed}
use Rattle.accuracy.proofs.Copy.{box_at}
use Rattle.fraction.proofs.Contains.{contains_refl}
use Rattle.inside_former.specs.Elimination.{Beside, forward_A, forward_B, SixNeverNew}
use Rattle.inside_former.proofs.Working.{formed_working}
use Rattle.inside_former.proofs.Back.{Inner, OnRuns, run_inner}

-- what did not change
beside_same : (n : ℕ) (r : Returned (List ℤ)) → Beside n r r
beside_same n r =
    record {
      accepted = λ e. (e, record { each = λ j h. contains_refl _ });
      six = λ e. (e, le_refl r.place);
      others = λ h k. refl;
      stay = λ h k. refl;
    }

boxes_narrowed : (n : ℕ) (t t₁ : List ℤ) → Inner n 0 t t₁ → Narrowed n (box n t) (box n t₁)
boxes_narrowed n t t₁ h = record { each = λ j l. rw (box_at n t j l, box_at n t₁ j l) (h.later j (omega arith) l).inside }

module _ (n : ℕ) (X : List ℤ) where
  -- the former run and the new one, as calls that were lent X
  abbrev Calls : (a b : Run (List ℤ)) → Type 0
  Calls a b = Beside n (ended written X a) (ended written X b)

  -- only what follows a part that both have in common can differ
  then_beside : {A : Type 0} (r : Run A) (f g : A → Run (List ℤ)) → ((a : A) → r ≡ done a → Calls (f a) (g a)) → Calls (and_then r f) (and_then r g)
  unfolding and_then
  then_beside (refused o) f g h = beside_same n _
  then_beside (done a) f g h = h a refl

  tested_beside : (t : Test) (a b : Run (List ℤ)) → (t ≡ Ok tt → Calls a b) → Calls (tested t a) (tested t b)
  unfolding tested
  tested_beside (Ok _) a b h = h refl
  tested_beside (Err o) a b h = beside_same n _

  back_beside : (a b : Run (List ℤ)) → OnRuns n a b → Calls (and_then a (λ t. done (box n t))) (and_then b (λ t. done (box n t)))
  unfolding ended and_then
  back_beside (done t) (done t₁) h =
      record {
        accepted = λ e. (refl, boxes_narrowed n t t₁ h);
        six = λ e. absurd (omega (arith, e));
        others = λ k l. absurd (k refl);
        stay = λ k l. absurd (k refl);
      }
  back_beside (done t) (refused p) h = absurd h
  back_beside (refused o) (done t₁) h =
      record {
        accepted = λ e. absurd (omega (arith, e, h.0));
        six = λ e. absurd (omega (arith, e));
        others = λ k l. absurd (k refl);
        stay = λ k l. absurd (l h.0);
      }
  back_beside (refused o) (refused p) h =
      let s = h.1.where_refused in
      record {
        accepted = λ e. absurd (omega (arith, e, h.0));
        six = λ e. (h.0, s.1);
        others = λ k l. absurd (l s.0);
        stay = λ k l. absurd (l h.0);
      }

  solved_beside : (t : List ℤ) → Working n t → Calls (solved lowest_row singly n t) (solved lowest_row once n t)
  unfolding solved
  solved_beside t w =
      then_beside (forward lowest_row n (table t none_taken)) _ _
      (λ s e. back_beside (back singly n n s.numbers) (back once n n s.numbers) (run_inner n t s w e))

-- ---- the calls
module _ (s : System) (X : List ℤ) where
  working : tests s (length X) ≡ Ok tt → Working s.size (copied s)
  working e = copied_working s (length X) (ready s (length X) e)

  beside_A : Beside s.size (ended_A lowest_row singly s X) (ended_A lowest_row once s X)
  unfolding run_A
  beside_A = tested_beside s.size X (tests s (length X)) _ _ (λ e. solved_beside s.size X (copied s) (working e))

  beside_B : Beside s.size (ended_B lowest_row singly s X) (ended_B lowest_row once s X)
  unfolding run_B
  beside_B =
      let n = s.size in
      tested_beside n X (tests s (length X)) _ _
      (λ e. then_beside n X (formed_rows n n 0 (copied s)) _ _ (λ t f. solved_beside n X t (formed_working n n 0 (copied s) t (omega arith) (working e) f)))

  -- what is refused before back-substitution
  same_A : (o : Refusal) → forward_A s ≡ refused o → ended_A lowest_row once s X ≡ ended_A lowest_row singly s X
  unfolding run_A solved and_then
  same_A o e = rw e

  same_B : (o : Refusal) → forward_B s ≡ refused o → ended_B lowest_row once s X ≡ ended_B lowest_row singly s X
  unfolding run_B solved and_then
  same_B o e = ap (λ r. ended written X (tested (tests s (length X)) r)) (go (formed_rows s.size s.size 0 (copied s)) e)
    where
      go : (r : Run (List ℤ)) → and_then r (λ t. forward lowest_row s.size (table t none_taken)) ≡ refused o →
          and_then r (λ t. solved lowest_row once s.size t) ≡ and_then r (λ t. solved lowest_row singly s.size t)
      go (refused p) f = refl
      go (done t) f = rw f

pub six_never_new : SixNeverNew
six_never_new = record { from_A = beside_A; from_B = beside_B; as_before_A = same_A; as_before_B = same_B }
