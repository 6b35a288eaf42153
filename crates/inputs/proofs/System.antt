-- The tests of what is lent to a call: matrix, right side and box, and then whatever follows.
use mathlib.Core.Path.{◌≡◌, ◌∙◌}
use mathlib.Core.List.{List, []}
use Prim.Native.Nat.{ℕ, ◌+◌, ◌*◌, ◌≤◌}
use native.Mathlib.Nat.{zero-add}
use borrow.Author.Tests.{eqb-true}
use lib.IntN.{ℤ}
use lib.ListN.{length}
use Rattle.outcome.specs.declared.Refusal.{Refusal}
use Rattle.outcome.specs.declared.Refusal.TheVariants as refusal
use Rattle.outcome.specs.Run.{Run, ended}
use Rattle.inputs.specs.declared.Slice.{Slice}
use Rattle.inputs.specs.Tests.{Test}
use Rattle.std.specs.Prelude.{Result, Ok, Err}
use Rattle.inputs.specs.Tests.{both, sized, lengths, sizes, proper, Part, all_proper, tested}
use Rattle.inputs.specs.System.{System, slices, parts, tests}
use Rattle.inputs.specs.Code.{Sound, Ended}
use Rattle.inputs.proofs.Tests.{both_pass, both_last, need_pass, sized_pass}
use Rattle.inputs.proofs.Place.{proper_sound}

-- ---- tests 1 and 2
module _ (s : System) (l : ℕ) where
  module _ (rest : Test) where
    pub size_stops : {o : Refusal} → sized s.size ≡ Err o → Err o ≡ both (sizes s.size (slices s l)) rest
    unfolding sizes both
    size_stops e = rw e

    pub lengths_stop : {o : Refusal} → sized s.size ≡ Ok tt → lengths (slices s l) ≡ Err o → Err o ≡ both (sizes s.size (slices s l)) rest
    unfolding sizes both
    lengths_stop e f = rw (e, f)

    pub sizes_go : sized s.size ≡ Ok tt → lengths (slices s l) ≡ Ok tt → rest ≡ both (sizes s.size (slices s l)) rest
    unfolding sizes both
    sizes_go e f = rw (e, f)

  -- what they say
  pub record Fitting : Type 0 where
    pub some : 1 ≤ s.size
    pub few : s.size ≤ 32
    pub matrix : length s.matrix ≡ 2 * (s.size * s.size)
    pub right : length s.right ≡ 2 * s.size
    pub box : l ≡ 2 * s.size

  pub fitting : sized s.size ≡ Ok tt → lengths (slices s l) ≡ Ok tt → Fitting
  unfolding lengths
  fitting e f =
      let g = both_pass _ _ f in
      let h = both_pass _ _ g.1 in
      let k = both_pass _ _ h.1 in
      let n = sized_pass s.size e in
      record {
        some = n.0;
        few = n.1;
        matrix = eqb-true _ _ (need_pass _ (refusal.Length 1) g.0);
        right = eqb-true _ _ (need_pass _ (refusal.Length 2) h.0);
        box = eqb-true _ _ (need_pass _ (refusal.Length 3) k.0);
      }

  pub sizes_fitting : sizes s.size (slices s l) ≡ Ok tt → Fitting
  unfolding sizes
  sizes_fitting e = let f = both_pass _ _ e in fitting f.0 f.1

-- ---- test 3 through matrix and right side; where nothing follows, the right side's is the last
pub right_last : (s : System) → proper s.matrix (s.size * s.size) 0 0 ≡ Ok tt → proper s.right s.size 0 (s.size * s.size) ≡ all_proper 0 (parts s [])
unfolding all_proper both
right_last s e = rw (e, zero-add (s.size * s.size)) (both_last _)

module _ (s : System) (ps : List Part) where
  pub matrix_stops : {o : Refusal} → proper s.matrix (s.size * s.size) 0 0 ≡ Err o → Err o ≡ all_proper 0 (parts s ps)
  unfolding all_proper both
  matrix_stops e = rw e

  module _ (e : proper s.matrix (s.size * s.size) 0 0 ≡ Ok tt) where
    pub right_stops : {o : Refusal} → proper s.right s.size 0 (s.size * s.size) ≡ Err o → Err o ≡ all_proper 0 (parts s ps)
    unfolding all_proper both
    right_stops f = rw (e, zero-add (s.size * s.size), f)

    pub parts_go : proper s.right s.size 0 (s.size * s.size) ≡ Ok tt → all_proper (s.size * s.size + s.size) ps ≡ all_proper 0 (parts s ps)
    unfolding all_proper both
    parts_go f = rw (e, zero-add (s.size * s.size), f)

  -- what they say
  pub record Proper : Type 0 where
    pub matrix : Sound s.matrix
    pub right : Sound s.right
    pub rest : all_proper (0 + s.size * s.size + s.size) ps ≡ Ok tt

  pub parts_proper : {l : ℕ} → Fitting s l → all_proper 0 (parts s ps) ≡ Ok tt → Proper
  unfolding all_proper
  parts_proper g e =
      let m = both_pass _ _ e in
      let r = both_pass _ _ m.1 in
      record {
        matrix = proper_sound s.matrix (s.size * s.size) 0 g.matrix m.0;
        right = proper_sound s.right s.size _ g.right r.0;
        rest = r.1;
      }

-- ---- tests 1 and 2, one after the other
module _ (n : ℕ) (ss : List Slice) where
  pub sizes_stop : {o : Refusal} → sized n ≡ Err o → Err o ≡ sizes n ss
  unfolding sizes both
  sizes_stop e = rw e

  pub sizes_last : sized n ≡ Ok tt → lengths ss ≡ sizes n ss
  unfolding sizes both
  sizes_last e = rw e

-- ---- the tests, one after the other, and what they say when they pass
module _ (s : System) (l : ℕ) where
  pub tests_sizes : {o : Refusal} → sizes s.size (slices s l) ≡ Err o → Err o ≡ tests s l
  unfolding tests both
  tests_sizes e = rw e

  module _ (e : sizes s.size (slices s l) ≡ Ok tt) where
    pub tests_matrix : {o : Refusal} → proper s.matrix (s.size * s.size) 0 0 ≡ Err o → Err o ≡ tests s l
    unfolding tests both
    tests_matrix g = matrix_stops s [] g ∙ rw e

    pub tests_right : proper s.matrix (s.size * s.size) 0 0 ≡ Ok tt → proper s.right s.size 0 (s.size * s.size) ≡ tests s l
    unfolding tests both
    tests_right g = right_last s g ∙ rw e

  pub record Ready : Type 0 where
    pub fitting : Fitting s l
    pub proper : Proper s []

  pub ready : tests s l ≡ Ok tt → Ready
  unfolding tests
  ready e =
      let b = both_pass _ _ e in
      let g = sizes_fitting s l b.0 in
      record { fitting = g; proper = parts_proper s [] g b.1 }

-- ---- a call, after its tests
module _ (t : Test) (r : Run (List ℤ)) (x : List ℤ) where
  pub call_runs : {o : Result (Unit {0}) Refusal} {y : List ℤ} → t ≡ Ok tt → Ended r o x y → Ended (tested t r) o x y
  unfolding tested
  call_runs e h = rw e h

  pub call_fails : {o : Refusal} → t ≡ Err o → Ended (tested t r) (Err o) x x
  unfolding tested ended
  call_fails e = record { is = rw e }
