-- The tests of a call, one after the other, and what they say when they pass.
use mathlib.Core.Path.{◌≡◌, sym, ◌∙◌}
use mathlib.Core.List.{List, [], ◌∷◌}
use Prim.Native.Nat.{ℕ, ◌+◌, ◌*◌, ◌≤◌, ◌<◌}
use native.Mathlib.Nat.{zero-add}
use borrow.Author.Tests.{le-leb, lt-leb, leb-true}
use lib.Dec.{leb}
use lib.IntN.{ℤ}
use lib.ListN.{length}
use Rattle.outcome.specs.declared.Refusal.{Refusal}
use Rattle.outcome.specs.declared.Refusal.TheVariants as refusal
use Rattle.interval.proofs.Range.{and_both}
use Rattle.std.specs.Prelude.{Ok, Err}
use Rattle.inputs.specs.Tests.{both, need, sizes, proper, Part, all_proper}
use Rattle.inputs.specs.System.{System, system, slices}
use Rattle.inputs.proofs.Tests.{both_pass, both_go, both_last, need_pass}
use Rattle.inputs.proofs.System.{Fitting, sizes_fitting, parts_go, parts_proper}
use Rattle.inputs.proofs.Place.{proper_sound}
use Rattle.sweep.specs.Call.{allowance, tests}
use Rattle.sweep.specs.Code.{Ready}

-- ---- test 4
module _ (k : ℕ) where
  pub allowance_yes : 1 ≤ k → k ≤ 10000 → Ok tt ≡ allowance k
  unfolding allowance need
  allowance_yes h g = rw (le-leb 1 k h, le-leb k 10000 g)

  pub allowance_low : k < 1 → Err refusal.Allowed ≡ allowance k
  unfolding allowance need
  allowance_low h = rw (lt-leb 1 k h)

  pub allowance_high : 1 ≤ k → 10000 < k → Err refusal.Allowed ≡ allowance k
  unfolding allowance need
  allowance_high h g = rw (le-leb 1 k h, lt-leb k 10000 g)

  allowance_pass : allowance k ≡ Ok tt → k ≤ 10000
  unfolding allowance
  allowance_pass e = leb-true k 10000 (and_both (leb 1 k) (leb k 10000) (need_pass _ refusal.Allowed e)).1

-- ---- in sequence
-- what follows matrix and right side
abbrev box : System → List ℤ → List Part
box s x = record { numbers = x; count = s.size } ∷ []

module _ (n : ℕ) (m r : List ℤ) (k : ℕ) (x : List ℤ) where
  abbrev lent : System
  lent = system n m r

  pub tests_sizes : {o : Refusal} → sizes n (slices lent (length x)) ≡ Err o → tests (system n m r) k x ≡ Err o
  unfolding tests both
  tests_sizes e = rw e

  module _ (e : sizes n (slices lent (length x)) ≡ Ok tt) where
    pub tests_allowed : {o : Refusal} → allowance k ≡ Err o → tests (system n m r) k x ≡ Err o
    unfolding tests both
    tests_allowed a = rw (e, a)

    module _ (a : allowance k ≡ Ok tt) where
      pub tests_matrix : {o : Refusal} → proper m (n * n) 0 0 ≡ Err o → tests (system n m r) k x ≡ Err o
      unfolding tests both all_proper
      tests_matrix f = rw (e, a, f)

      module _ (f : proper m (n * n) 0 0 ≡ Ok tt) where
        pub tests_right : {o : Refusal} → proper r n 0 (n * n) ≡ Err o → tests (system n m r) k x ≡ Err o
        unfolding tests both all_proper
        tests_right g = rw (e, a, f, zero-add (n * n), g)

        pub tests_box : proper r n 0 (n * n) ≡ Ok tt → tests (system n m r) k x ≡ proper x n 0 (n * n + n)
        unfolding tests all_proper
        tests_box g = sym (both_last _ ∙ parts_go lent (box lent x) f g ∙ both_go _ a ∙ both_go _ e)

module _ (s : System) (k : ℕ) (x : List ℤ) where
  pub allowed_few : tests s k x ≡ Ok tt → k ≤ 10000
  unfolding tests
  allowed_few e = allowance_pass k (both_pass _ _ (both_pass _ _ e).1).0

  pub fits : tests s k x ≡ Ok tt → Fitting s (length x)
  unfolding tests
  fits e = sizes_fitting s (length x) (both_pass _ _ e).0

  pub ready : tests s k x ≡ Ok tt → Ready s.size s.matrix s.right x
  unfolding tests all_proper
  ready e =
      let z = fits e in
      let q = parts_proper s (box s x) z (both_pass _ _ (both_pass _ _ e).1).1 in
      record {
        few = z.few;
        matrix = z.matrix;
        right = z.right;
        box = z.box;
        matrix_sound = q.matrix;
        right_sound = q.right;
        box_sound = proper_sound x s.size (0 + s.size * s.size + s.size) z.box (both_pass (proper x s.size 0 (0 + s.size * s.size + s.size)) (Ok tt) q.rest).0;
      }
