-- The tests of a box as the code makes them, and what they say when they pass.
use mathlib.Core.Path.{◌≡◌, refl, sym, subst, ◌∙◌}
use mathlib.Core.Bool.{Bool, true, false, ◌&&◌}
use mathlib.Core.List.{List}
use Prim.Native.Nat.{ℕ, ◌*◌, ◌≤◌}
use borrow.Author.Tests.{eqb-true}
use lib.Dec.{T, eqb}
use lib.IntN.{ℤ}
use lib.ListN.{length}
use Rattle.std.specs.Prelude.{Ok, Err, is_ok}
use Rattle.outcome.specs.declared.Refusal.{Refusal}
use Rattle.interval.proofs.Range.{and_both}
use Rattle.inputs.specs.Tests.{Test, both, need, sized, lengths, sizes, proper}
use Rattle.inputs.specs.Code.{Sound}
use Rattle.inputs.proofs.Tests.{sized_pass}
use Rattle.inputs.proofs.Place.{proper_sound}
use Rattle.narrower.specs.Choice.{is_box}

passed : (t : Test) → is_ok t ≡ true → t ≡ Ok tt
passed (Ok _) e = refl
passed (Err o) e = absurd (subst T (sym e) tt)

ok_both : (s t : Test) → is_ok (both s t) ≡ (is_ok s && is_ok t)
unfolding both
ok_both (Ok _) t = refl
ok_both (Err o) t = refl

ok_need : (b : Bool) (o : Refusal) → is_ok (need b o) ≡ b
unfolding need
ok_need true o = refl
ok_need false o = refl

pub few : (n : ℕ) → is_ok (sized n) ≡ true → n ≤ 32
few n e = (sized_pass n (passed _ e)).1

module _ (n : ℕ) (X : List ℤ) where
  pub is_box_by_tests : is_box n X ≡ ((is_ok (sized n) && (eqb (length X) (2 * n) && true)) && is_ok (proper X n 0 0))
  unfolding is_box sizes lengths
  is_box_by_tests = simp (ok_both, ok_need)

-- what they say
pub record Box (n : ℕ) (X : List ℤ) : Type 0 where
  pub few : n ≤ 32
  pub long : length X ≡ 2 * n
  pub sound : Sound X

pub is_a_box : (n : ℕ) (X : List ℤ) → is_box n X ≡ true → Box n X
is_a_box n X e =
    let b = and_both _ _ (sym (is_box_by_tests n X) ∙ e) in
    let s = and_both _ _ b.0 in
    let l = eqb-true _ _ (and_both _ _ s.1).0 in
    record { few = few n s.0; long = l; sound = proper_sound X n 0 l (passed _ b.1) }
