-- The tests of a call from a list, one after the other; then the square's run.
use mathlib.Core.Path.{◌≡◌, refl, sym, ap, ◌∙◌}
use mathlib.Core.List.{List, [], ◌∷◌, ◌++◌}
use Prim.Native.Nat.{ℕ, ◌+◌, ◌*◌, ◌≤◌}
use native.Mathlib.Omega.{arith}
use lib.IntN.{ℤ, pos}
use lib.ListN.{length, replicate, drop}
use lib.Seq.{paste}
use Rattle.outcome.specs.declared.Refusal.{Refusal}
use Rattle.outcome.specs.Run.{Run, and_then, returned, answered, ended}
use Rattle.inputs.specs.Tests.{Test, both, proper, Part, all_proper, tested}
use Rattle.std.specs.Prelude.{Some, Result, Ok, Err, IsErrAnd}
use Rattle.inputs.proofs.Tests.{both_pass, both_last, square as square_few}
use Rattle.inputs.proofs.Copy.{fronted, pasted_both}
use Rattle.inputs.specs.System as inputs
use Rattle.inputs.specs.Code.{Ended}
use Rattle.rows.specs.Sum.{once}
use Rattle.forward.specs.Pivot.{lowest_row}
use Rattle.forward.specs.Formed.{formed_rows}
use Rattle.elimination.specs.Call.{copied, solved, run_B}
use Rattle.sweep.specs.Call as sweep
use Rattle.sweep.specs.Call.{sweeps, allowance, concluded}
use Rattle.sweep.specs.Calls.{Call, sweep_call, symmetric_call, run_by, returned_by}
use Rattle.sweep.specs.Code.{pass, Ran}
use Rattle.sweep.specs.declared.Swept.{Swept}
use Rattle.sweep.specs.declared.internal.pass.Way.{Way}
use Rattle.sweep.specs.declared.internal.pass.Way.TheVariants.{There, ThereAndBack}
use Rattle.transfers.specs.Listing.{Listing, sizes, entries, shares, intervals, filled, square, squared}
use Rattle.transfers.specs.Call.{tests, sweep_tests, run_list, over_list, allowed_of, sweep_list, call_list}
use Rattle.transfers.specs.Code.{judgement, Entered, of_way}
use Rattle.transfers.specs.declared.internal.found.Ends.{Ends}
use Rattle.transfers.specs.Rows.{Tested}
use Rattle.outcome.proofs.Run.{carried}
use Rattle.transfers.proofs.Judged.{passed}
use Rattle.transfers.proofs.Sizes.{Fitting, fitting}
use Rattle.transfers.proofs.Square.{length_square, square_before, square_tests, square_sweep_tests}

-- ---- the records' tests, and then the intervals after them
both_assoc : (t u v : Test) → both t (both u v) ≡ both (both t u) v
unfolding both
both_assoc (Ok _) u v = refl
both_assoc (Err o) u v = refl

judged : (s : Listing) → entries s.size s.transfers ≡ Ok tt → shares s.transfers (length s.transfers) 0 ≡ Ok tt → judgement s.size s.transfers ≡ Ok tt
unfolding judgement both
judged s a b = rw (a, b)

module _ (s : Listing) (ps : List Part) where
  -- those after the records
  abbrev behind : Test
  behind = all_proper (length s.transfers) (record { numbers = s.right; count = s.size } ∷ ps)

  together : both (entries s.size s.transfers) (intervals s ps) ≡ both (judgement s.size s.transfers) behind
  unfolding judgement intervals
  together = both_assoc (entries s.size s.transfers) (shares s.transfers (length s.transfers) 0) behind

  pub records_stop : {o : Refusal} → judgement s.size s.transfers ≡ Err o → both (entries s.size s.transfers) (intervals s ps) ≡ Err o
  unfolding both
  records_stop e = together ∙ rw e

  module _ (e : judgement s.size s.transfers ≡ Ok tt) where
    pub right_stops : {o : Refusal} → proper s.right s.size 0 (length s.transfers) ≡ Err o → both (entries s.size s.transfers) (intervals s ps) ≡ Err o
    unfolding both all_proper
    right_stops f = together ∙ rw (e, f)

    pub right_goes : proper s.right s.size 0 (length s.transfers) ≡ Ok tt
        → both (entries s.size s.transfers) (intervals s ps) ≡ all_proper (length s.transfers + s.size) ps
    unfolding both all_proper
    right_goes f = together ∙ rw (e, f)

-- the working copy, from what was put into noughts and the right side behind it
pub copied_is : (s : Listing) {before t₁ t₂ : List ℤ} {r : Test} → s.size ≤ 32 → Entered s.size s.transfers before r t₁ → r ≡ Ok tt → before ≡ replicate 2_112 (pos 0)
    → t₂ ≡ paste t₁ (2 * (s.size * s.size)) s.right (length s.right) → t₂ ≡ copied (squared s)
unfolding copied
copied_is s {t₁ = t₁} {t₂ = t₂} few e p b g =
    let n = s.size in
    let z = replicate 2_112 (pos 0) in
    let a = square n s.transfers in
    let l : length a ≡ 2 * (n * n) = length_square n s.transfers in
    let q = passed n s.transfers (sym e.said ∙ p) in
    let f : t₁ ≡ a ++ drop (length a) z = e.matrix p ∙ ap (filled n s.transfers (length s.transfers) 0) b ∙ square_before n s.transfers q 2_112 (omega (arith, square_few n few)) ∙ ap (λ k. a ++ drop k z) (sym l) in
    pasted_both z a s.right t₁ t₂ (f ∙ sym (fronted z a)) (g ∙ ap (λ k. paste t₁ k s.right (length s.right)) (sym l))

-- ---- elimination
module _ (s : Listing) (X : List ℤ) where
  abbrev calculation : Run (List ℤ)
  calculation = and_then (formed_rows s.size s.size 0 (copied (squared s))) (λ t. solved lowest_row once s.size t)

  list_fails : {o : Refusal} → tests s (length X) ≡ Err o → returned (Err o) 0 X ≡ over_list s X
  unfolding run_list tested ended
  list_fails e = rw e

  pub list_sizes : {o : Refusal} → sizes s (length X) ≡ Err o → returned (Err o) 0 X ≡ over_list s X
  unfolding tests both
  list_sizes {o} e = list_fails {o = o} (rw e)

  module _ (e : sizes s (length X) ≡ Ok tt) where
    after_sizes : both (entries s.size s.transfers) (intervals s []) ≡ tests s (length X)
    unfolding tests both
    after_sizes = rw e

    pub list_records : {o : Refusal} → judgement s.size s.transfers ≡ Err o → returned (Err o) 0 X ≡ over_list s X
    list_records f = list_fails (sym after_sizes ∙ records_stop s [] f)

    module _ (j : judgement s.size s.transfers ≡ Ok tt) where
      pub list_right : {o : Refusal} → proper s.right s.size 0 (length s.transfers) ≡ Err o → returned (Err o) 0 X ≡ over_list s X
      list_right f = list_fails (sym after_sizes ∙ right_stops s [] j f)

      module _ (r : proper s.right s.size 0 (length s.transfers) ≡ Ok tt) where
        pub list_ready : inputs.tests (squared s) (length X) ≡ Ok tt
        list_ready = square_tests s (length X) (fitting s (length X) e) (passed s.size s.transfers j) (length s.transfers) r

        pub list_runs : {o : Test} {Y : List ℤ} → Ended calculation o X Y → answered o Y ≡ over_list s X
        unfolding run_list run_B tested all_proper
        list_runs h = rw (sym after_sizes ∙ right_goes s [] j r, list_ready) h.is

  -- a refusal that `?` hands on
  pub list_stops : (r : Test) (o : Refusal) → IsErrAnd r (λ p. p ≡ o) → returned (Err o) 0 X ≡ over_list s X → answered r X ≡ over_list s X
  list_stops r o h e = rw (carried r o h) e

-- ---- sweeps
module _ (s : Listing) (k : ℕ) (X : List ℤ) where
  abbrev box : List Part
  box = record { numbers = X; count = s.size } ∷ []

  pub sweep_sizes : {o : Refusal} → sizes s (length X) ≡ Err o → sweep_tests s k X ≡ Err o
  unfolding sweep_tests both
  sweep_sizes e = rw e

  module _ (e : sizes s (length X) ≡ Ok tt) where
    pub sweep_allowed : {o : Refusal} → allowance k ≡ Err o → sweep_tests s k X ≡ Err o
    unfolding sweep_tests both
    sweep_allowed a = rw (e, a)

    module _ (a : allowance k ≡ Ok tt) where
      after_four : both (entries s.size s.transfers) (intervals s box) ≡ sweep_tests s k X
      unfolding sweep_tests both
      after_four = rw (e, a)

      pub sweep_records : {o : Refusal} → judgement s.size s.transfers ≡ Err o → sweep_tests s k X ≡ Err o
      sweep_records f = sym after_four ∙ records_stop s box f

      module _ (j : judgement s.size s.transfers ≡ Ok tt) where
        pub sweep_right : {o : Refusal} → proper s.right s.size 0 (length s.transfers) ≡ Err o → sweep_tests s k X ≡ Err o
        sweep_right f = sym after_four ∙ right_stops s box j f

        pub sweep_box : proper s.right s.size 0 (length s.transfers) ≡ Ok tt → sweep_tests s k X ≡ proper X s.size 0 (length s.transfers + s.size)
        unfolding all_proper
        sweep_box r = sym after_four ∙ right_goes s box j r ∙ sym (both_last _)

  pub sweep_stops : (r : Result Ends Refusal) {o : Refusal} → IsErrAnd r (λ p. p ≡ o) → sweep_tests s k X ≡ Err o → Tested s k X r
  sweep_stops r {o} h e = rw (carried r o h) e

  -- what they say when they pass
  pub record SweepReady : Type 0 where
    pub fitting : Fitting s (length X)
    pub tests : sweep.tests (squared s) k X ≡ Ok tt

  pub sweep_ready : sweep_tests s k X ≡ Ok tt → SweepReady
  unfolding sweep_tests intervals all_proper
  sweep_ready e =
      let f = both_pass _ _ e in
      let g = both_pass _ _ f.1 in
      let h = both_pass _ _ g.1 in
      let i = both_pass _ _ h.1 in
      let r = both_pass _ _ i.1 in
      let x = both_pass (proper X s.size 0 (length s.transfers + s.size)) (Ok tt) r.1 in
      let z = fitting s (length X) f.0 in
      record {
        fitting = z;
        tests = square_sweep_tests s k X z (passed s.size s.transfers (judged s h.0 i.0)) (length s.transfers) r.0 g.0 (length s.transfers + s.size) x.0;
      }

-- ---- the two calls, by the way of their passes
module _ (s : Listing) (X : List ℤ) where
  called : (c : Call) {o : Refusal} → sweep_tests s (allowed_of c) X ≡ Err o → returned (Err o) 0 X ≡ call_list s c X
  unfolding returned_by sweep_list tested ended
  called c e = rw e

  pub call_fails : (w : Way) (k : ℕ) {o : Refusal} → sweep_tests s k X ≡ Err o → returned (Err o) 0 X ≡ call_list s (of_way w k) X
  call_fails There k e = called (sweep_call k) e
  call_fails ThereAndBack k e = called (symmetric_call k) e

  pub call_runs : (w : Way) (k : ℕ) → sweep_tests s k X ≡ Ok tt → {r : Swept} {Y : List ℤ}
      → Ran (sweeps s.size (pass (Some w) (squared s)) k X) X r Y → returned r.outcome r.count Y ≡ call_list s (of_way w k) X
  unfolding returned_by sweep_list run_by tested ended
  call_runs There k e g = let t = (sweep_ready s k X e).tests in g.is ∙ rw (e, t)
  call_runs ThereAndBack k e g = let t = (sweep_ready s k X e).tests in g.is ∙ rw (e, t)

pub call_sizes : (s : Listing) (w : Way) (k : ℕ) (X : List ℤ) {o : Refusal} → sizes s (length X) ≡ Err o → returned (Err o) 0 X ≡ call_list s (of_way w k) X
call_sizes s w k X e = call_fails s X w k (sweep_sizes s k X e)
