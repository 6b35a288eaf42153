-- The claim: as many passes there and back as sweeps, from the same box.
use mathlib.Core.Path.{◌≡◌, refl, sym, subst, ◌∙◌}
use mathlib.Core.Bool.{Bool, true, false}
use mathlib.Core.List.{List}
use Prim.Native.Nat.{ℕ}
use borrow.Author.Tests.{eq-eqb, ne_eqb, eqb-true}
use lib.Dec.{T, eqb}
use lib.IntN.{ℤ}
use Rattle.inputs.specs.System.{System}
use Rattle.rows.specs.Sum.{once}
use Rattle.sweep.specs.Pass.{sweep, symmetric}
use Rattle.sweep.specs.Calls.{sweep_call, symmetric_call, run_by, run, returned_by, call}
use Rattle.inside_former.proofs.Calls.{Called, same, called, narrowed}
use Rattle.inside_ordinary.specs.Passes.{Inside, InsideOrdinary}
use Rattle.inside_ordinary.proofs.Pass.{pass_inner}

module _ (s : System) (k : ℕ) (X : List ℤ) where
  beside : eqb (call s (symmetric_call k) X).number 7 ≡ false → Called s.size (run s (sweep_call k) X) X (run s (symmetric_call k) X) X
  unfolding returned_by run_by
  beside e = called s (sweep once s) (symmetric once s) (λ Z w. pass_inner s Z w) k X X (same refl) e

  refused_too : (call s (sweep_call k) X).number ≡ 7 → (call s (symmetric_call k) X).number ≡ 7
  unfolding returned_by
  refused_too e = go (eqb (call s (symmetric_call k) X).number 7) refl
    where
      go : (t : Bool) → eqb (call s (symmetric_call k) X).number 7 ≡ t → (call s (symmetric_call k) X).number ≡ 7
      go true f = eqb-true _ _ f
      go false f = absurd (subst T (sym (eq-eqb _ 7 e) ∙ (beside f).not_empty) tt)

  inside : Inside s k X
  unfolding returned_by
  inside =
      record {
        boxes = λ h j. (beside (ne_eqb _ 7 h)).boxes j;
        left = λ h. narrowed (beside (ne_eqb _ 7 h)).left;
        empty = refused_too;
      }

pub inside_ordinary : InsideOrdinary
inside_ordinary s k X = inside s k X
