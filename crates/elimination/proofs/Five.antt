-- Both calls say 5 with pivot k exactly if they reach step k and no row from k on serves there.
use mathlib.Core.Path.{◌≡◌, refl, sym, ap, ◌∙◌, subst}
use mathlib.Core.Logic.{◌≢◌}
use mathlib.Core.List.{List}
use Prim.Native.Nat.{ℕ, zero, suc, ◌+◌, ◌-◌, ◌<◌}
use native.Mathlib.Omega.{arith}
use lib.IntN.{ℤ, pos}
use lib.ListN.{length, set}
use Rattle.outcome.specs.declared.Refusal.{Refusal}
use Rattle.outcome.specs.declared.Refusal.TheVariants as refusal
use Rattle.outcome.specs.Table.{number_and_place}
use Rattle.outcome.specs.Run.{Run, refused, done, and_then, ended, written}
use Rattle.outcome.proofs.Run.{Refuses, done_same, refused_same, not_refused}
use Rattle.inputs.specs.Tests.{Test}
use Rattle.std.specs.Prelude.{Ok, Err}
use Rattle.inputs.specs.Place.{at, cell}
use Rattle.inputs.specs.Tests.{tested}
use Rattle.inputs.specs.System.{tests}
use Rattle.inputs.proofs.Early.{Early, early_number, early_tests}
use Rattle.rows.specs.Sum.{RowSum}
use Rattle.forward.specs.Pivot.{lowest_row, swapped}
use Rattle.forward.specs.Forward.{Table, table, taking, rows, pivots, forward}
use Rattle.forward.specs.Formed.{formed_rows}
use Rattle.forward.proofs.Run.{stepped}
use Rattle.forward.proofs.Pivot.{refused_five, five}
use Rattle.elimination.specs.Back.{back}
use Rattle.elimination.specs.Call.{copied, box, none_taken, solved, run_A, run_B}
use Rattle.elimination.specs.Claim.{NoRow, Five, FiveExactly}
use Rattle.elimination.proofs.Refused.{refuses_rows, refuses_back, refuses_formed_rows}

-- ---- no part but the search says 5
abbrev Other : Refusal → Type 0
Other o = (number_and_place (Err o)).number ≢ 5

six : (row : ℕ) → Other (refusal.OutOfRange row)
six row e = omega (arith, e)

-- a run that is refused with 5 was refused so before, or went on
record Onward {A B : Type 0} (r : Run A) (f : A → Run B) (o : Refusal) : Type 0 where
  mid : A
  first : r ≡ done mid
  rest : f mid ≡ refused o

onward : {A B : Type 0} (r : Run A) (f : A → Run B) (o : Refusal) → Refuses Other r → (number_and_place (Err o)).number ≡ 5 → and_then r f ≡ refused o → Onward r f o
unfolding and_then
onward (refused p) f o h n e = absurd (h.where_refused (ap (λ (q : Refusal). (number_and_place (Err q)).number) (refused_same e) ∙ n))
onward (done a) f o h n e = record { mid = a; first = refl; rest = e }

-- ---- the steps before the one that finds no row
record Stopped (n d j : ℕ) (s : Table) (o : Refusal) : Type 0 where
  count : ℕ
  below : count < d
  left : Table
  reached : pivots lowest_row n count j s ≡ done left
  none : lowest_row n (j + count) left.numbers ≡ refused o

-- a step that was taken, before any number of others
taken_on : (n m j : ℕ) (s : Table) {s₁ : Table} {t : List ℤ} → taking lowest_row n j s ≡ done s₁ → rows n j (at s₁.numbers (cell n j j)) (n - (j + 1)) (j + 1) s₁.numbers ≡ done t →
    pivots lowest_row n (suc m) j s ≡ pivots lowest_row n m (j + 1) (table t s₁.taken)
unfolding pivots and_then
taken_on n m j s e f = rw (e, f)

-- and one for which there is no row
row_refused : (n j : ℕ) (s : Table) (o : Refusal) → taking lowest_row n j s ≡ refused o → lowest_row n j s.numbers ≡ refused o
unfolding taking and_then
row_refused n j s o = go (lowest_row n j s.numbers)
  where
    go : (r : Run ℕ) → and_then r (λ i. done (table (swapped n j i s.numbers) (set s.taken j (pos i)))) ≡ refused o → r ≡ refused o
    go (refused p) e = ap refused (refused_same e)
    go (done i) e = not_refused e

first_stops : (n m j : ℕ) (s : Table) (o : Refusal) → lowest_row n j s.numbers ≡ refused o → pivots lowest_row n (suc m) j s ≡ refused o
unfolding pivots taking and_then
first_stops n m j s o e = rw e

stopped_at : (n d j : ℕ) (s : Table) (o : Refusal) → (number_and_place (Err o)).number ≡ 5 → pivots lowest_row n d j s ≡ refused o → Stopped n d j s o
unfolding pivots and_then
stopped_at n zero j s o h e = not_refused e
stopped_at n (suc d) j s o h e = go (taking lowest_row n j s) refl e (λ s₂ f. stopped_at n d (j + 1) s₂ o h f)
  where
    go : (r : Run Table) → taking lowest_row n j s ≡ r →
        and_then r (λ s₁. and_then (rows n j (at s₁.numbers (cell n j j)) (n - (j + 1)) (j + 1) s₁.numbers) (λ t. pivots lowest_row n d (j + 1) (table t s₁.taken))) ≡ refused o →
        ((s₂ : Table) → pivots lowest_row n d (j + 1) s₂ ≡ refused o → Stopped n d (j + 1) s₂ o) → Stopped n (suc d) j s o
    go (refused p) f g later =
        let z : j + 0 ≡ j = omega arith in
        record { count = 0; below = omega arith; left = s; reached = refl; none = rw z (row_refused n j s p f ∙ ap refused (refused_same g)) }
    go (done s₁) f g later =
        let a = onward (rows n j (at s₁.numbers (cell n j j)) (n - (j + 1)) (j + 1) s₁.numbers) _ o (refuses_rows Other six _ _ _ _ _ _) h g in
        let x = later _ a.rest in
        let z : j + suc x.count ≡ j + 1 + x.count = omega arith in
        record { count = suc x.count; below = omega (arith, x.below); left = x.left; reached = taken_on n x.count j s f a.first ∙ x.reached; none = rw z x.none }

stops : (n c d j : ℕ) (s left : Table) (o : Refusal) → pivots lowest_row n c j s ≡ done left → lowest_row n (j + c) left.numbers ≡ refused o → pivots lowest_row n (c + suc d) j s ≡ refused o
unfolding pivots taking and_then
stops n zero d j s left o e f =
    let z : j + 0 ≡ j = omega arith in
    let a : 0 + suc d ≡ suc d = omega arith in
    rw a (first_stops n d j s o (rw (done_same e) (rw z at f)))
stops n (suc c) d j s left o e f =
    let x = stepped lowest_row n c j s left e in
    let z : j + suc c ≡ j + 1 + c = omega arith in
    let a : suc c + suc d ≡ suc (c + suc d) = omega arith in
    rw a (taken_on n (c + suc d) j s (rw x.chosen) x.below ∙ stops n c d (j + 1) _ left o x.rest (rw z at f))

-- ---- the calculation
module _ (sum : RowSum) (n : ℕ) (t : List ℤ) where
  no_row_lem : (o : Refusal) (k : ℕ) → (number_and_place (Err o)).place ≡ k + 1 → Stopped n n 0 (table t none_taken) o → NoRow n k t
  no_row_lem o k p x =
      let z : 0 + x.count ≡ x.count = omega arith in
      let f = rw z at x.none in
      let g = refused_five n x.count x.left.numbers o f in
      let e : x.count + 1 ≡ k + 1 = ap (λ (q : Refusal). (number_and_place (Err q)).place) (sym g) ∙ p in
      let c : x.count ≡ k = omega (arith, e) in
      let r : NoRow n x.count t = record { below = x.below; left = x.left; reached = x.reached; each = (five n x.count x.left.numbers x.below).0 (f ∙ ap refused g) } in
      subst (λ k. NoRow n k t) c r

  solved_five : (o : Refusal) (k : ℕ) → (number_and_place (Err o)).number ≡ 5 → (number_and_place (Err o)).place ≡ k + 1 → solved lowest_row sum n t ≡ refused o → NoRow n k t
  unfolding solved forward and_then
  solved_five o k h p e = go (pivots lowest_row n n 0 (table t none_taken)) refl e
    where
      go : (r : Run Table) → pivots lowest_row n n 0 (table t none_taken) ≡ r → and_then r (λ s. and_then (back sum n n s.numbers) (λ t₁. done (box n t₁))) ≡ refused o → NoRow n k t
      go (refused q) f g = no_row_lem o k p (stopped_at n n 0 (table t none_taken) o h (f ∙ ap refused (refused_same g)))
      go (done s) f g = not_refused (onward (back sum n n s.numbers) _ o (refuses_back Other six sum n n s.numbers) h g).rest

  five_solved : (k : ℕ) → NoRow n k t → solved lowest_row sum n t ≡ refused (refusal.ContainsZero (k + 1))
  unfolding solved forward and_then
  five_solved k x =
      let z : 0 + k ≡ k = omega arith in
      let a : k + suc (n - (k + 1)) ≡ n = omega (arith, x.below) in
      let e = stops n k (n - (k + 1)) 0 (table t none_taken) x.left (refusal.ContainsZero (k + 1)) x.reached (rw z ((five n k x.left.numbers x.below).1 x.each)) in
      let f : pivots lowest_row n n 0 (table t none_taken) ≡ refused (refusal.ContainsZero (k + 1)) = ap (λ (d : ℕ). pivots lowest_row n d 0 (table t none_taken)) (sym a) ∙ e in
      rw f

-- ---- the calls
record Said (r : Run (List ℤ)) (k : ℕ) : Type 0 where
  outcome : Refusal
  is : r ≡ refused outcome
  number : (number_and_place (Err outcome)).number ≡ 5
  place : (number_and_place (Err outcome)).place ≡ k + 1

said : (r : Run (List ℤ)) (x : List ℤ) (k : ℕ) → Five (ended written x r) k → Said r k
unfolding ended
said (refused o) x k h = record { outcome = o; is = refl; number = h.0; place = h.1 }
said (done t) x k h = absurd (omega (arith, h.0))

say : (r : Run (List ℤ)) (x : List ℤ) (k : ℕ) → r ≡ refused (refusal.ContainsZero (k + 1)) → Five (ended written x r) k
unfolding ended
say r x k e = rw e (refl, refl)

tested_five : (t : Test) (r : Run (List ℤ)) (o : Refusal) → Early t → (number_and_place (Err o)).number ≡ 5 → tested t r ≡ refused o → (t ≡ Ok tt) × (r ≡ refused o)
unfolding tested
tested_five (Ok _) r o h n e = (refl, e)
tested_five (Err p) r o h n e =
    let b = early_number h refl in
    let f : (number_and_place (Err p)).number ≡ 5 = ap (λ (q : Refusal). (number_and_place (Err q)).number) (refused_same e) ∙ n in
    absurd (omega (arith, b, f))

pub five_exactly : FiveExactly
unfolding run_A run_B tested and_then
five_exactly =
    record {
      from_A = λ sum s x k. (
        (λ h.
            let c = said (run_A lowest_row sum s (length x)) x k h in
            let e = tested_five (tests s (length x)) _ c.outcome (early_tests s (length x)) c.number c.is in
            (e.0, solved_five sum s.size (copied s) c.outcome k c.number c.place e.1)),
        (λ h. say (run_A lowest_row sum s (length x)) x k (rw h.0 (five_solved sum s.size (copied s) k h.1))),
      );
      from_B = λ sum s x k. (
        (λ h.
            let c = said (run_B lowest_row sum s (length x)) x k h in
            let e = tested_five (tests s (length x)) _ c.outcome (early_tests s (length x)) c.number c.is in
            let f = onward (formed_rows s.size s.size 0 (copied s)) _ c.outcome (refuses_formed_rows Other six _ _ _ _) c.number e.1 in
            (e.0, record { formed = f.mid; forms = f.first; no_row = solved_five sum s.size f.mid c.outcome k c.number c.place f.rest })),
        (λ h. say (run_B lowest_row sum s (length x)) x k (rw (h.0, h.1.forms) (five_solved sum s.size h.1.formed k h.1.no_row))),
      );
    }
