-- As many sweeps of two ways to pass, of which one stays inside the other, whatever they are: a box that one of them leaves as it is
-- stands for all its later ones, so the other goes on beside it.
use mathlib.Core.Path.{◌≡◌, refl, sym, ap, subst, ◌∙◌}
use mathlib.Core.Bool.{Bool, true, false, cond}
use mathlib.Core.List.{List}
use Prim.Native.Nat.{ℕ, zero, suc}
use borrow.Author.Tests.{eq-eqb}
use lib.Dec.{T, eqb}
use lib.IntN.{ℤ}
use Rattle.outcome.specs.Table.{number_and_place}
use Rattle.outcome.specs.Run.{Run, refused, done}
use Rattle.sweep.specs.Pass.{differ}
use Rattle.sweep.specs.Call.{Log, settled, swept, after, sweeps, ending, last}
use Rattle.sweep.proofs.Changed.{differ_self}
use Rattle.inside_former.specs.Sweeps.{box_after}
use Rattle.inside_former.proofs.Inner.{Inner, OnPasses, same_box}
use Rattle.std.specs.Prelude.{Err}

-- the sweeps end with a 7
abbrev pub is_emptied : Log → Bool
is_emptied l = eqb (number_and_place (ending l)).number 7

-- ---- sweeps from X of which all that is asked here is the same
pub record Alike (l m : Log) (X : List ℤ) : Type 0 where
  pub emptied : is_emptied l ≡ is_emptied m
  pub box : (j : ℕ) → box_after l j X ≡ box_after m j X
  pub left : (a : List ℤ) → last l a X ≡ last m a X

-- a pass that leaves its box as it is would leave it so again, however often
pub stands : (n : ℕ) (p : List ℤ → Run (List ℤ)) (k : ℕ) (X : List ℤ) → p X ≡ done X → Alike settled (sweeps n p k X) X
unfolding sweeps box_after
stands n p zero X e = record { emptied = refl; box = λ j. refl; left = λ a. refl }
stands n p (suc k) X e = rw (e, differ_self X n 0) (record { emptied = refl; box = box; left = λ a. refl })
  where
    box : (j : ℕ) → X ≡ box_after (swept X settled) j X
    box zero = refl
    box (suc j) = refl

-- so to settle is to go on
goes_on : (n : ℕ) (p : List ℤ → Run (List ℤ)) (k : ℕ) (X Y : List ℤ) → p X ≡ done Y → (differ X Y n 0 ≡ false → X ≡ Y)
    → Alike (cond (differ X Y n 0) (sweeps n p k Y) settled) (sweeps n p k Y) Y
goes_on n p k X Y e f = go (differ X Y n 0) f
  where
    go : (b : Bool) → (b ≡ false → X ≡ Y) → Alike (cond b (sweeps n p k Y) settled) (sweeps n p k Y) Y
    go true f = record { emptied = refl; box = λ j. refl; left = λ a. refl }
    go false f = stands n p k Y (ap p (sym (f refl)) ∙ e)

-- ---- both ways side by side
pub record Along (n : ℕ) (f : Log) (X : List ℤ) (g : Log) (Y : List ℤ) : Type 0 where
  pub not_new : is_emptied f ≡ false
  pub boxes : (j : ℕ) → Inner n (box_after f j X) (box_after g j Y)
  pub lefts : (a b : List ℤ) → Inner n (last f a X) (last g b Y)

module _ (n : ℕ) (p q : List ℤ → Run (List ℤ)) (beside : (X Y : List ℤ) → Inner n X Y → OnPasses n (p X) (q Y)) where
  pub sweeps_inner : (k : ℕ) (X Y : List ℤ) → Inner n X Y → is_emptied (sweeps n q k Y) ≡ false → Along n (sweeps n p k X) X (sweeps n q k Y) Y
  unfolding sweeps box_after
  sweeps_inner zero X Y h e = record { not_new = refl; boxes = λ j. h; lefts = λ a b. h }
  sweeps_inner (suc k) X Y h e = go (p X) refl (q Y) refl (beside X Y h) e (λ X₁ Y₁. sweeps_inner k X₁ Y₁)
    where
      go : (r : Run (List ℤ)) → p X ≡ r → (t : Run (List ℤ)) → q Y ≡ t → OnPasses n r t → is_emptied (after n Y t (λ Z. sweeps n q k Z)) ≡ false
          → ((X₁ Y₁ : List ℤ) → Inner n X₁ Y₁ → is_emptied (sweeps n q k Y₁) ≡ false → Along n (sweeps n p k X₁) X₁ (sweeps n q k Y₁) Y₁)
          → Along n (after n X r (λ Z. sweeps n p k Z)) X (after n Y t (λ Z. sweeps n q k Z)) Y
      go r u (refused o) v c e ih = absurd (subst T (sym (eq-eqb (number_and_place (Err o)).number 7 c) ∙ e) tt)
      go (refused o) u (done Y₁) v c e ih = absurd c
      go (done X₁) u (done Y₁) v c e ih =
          let a = goes_on n p k X X₁ u (same_box n h.former c.former) in
          let b = goes_on n q k Y Y₁ v (same_box n h.new c.new) in
          let r = ih X₁ Y₁ c (sym b.emptied ∙ e) in
          record { not_new = a.emptied ∙ r.not_new; boxes = boxes a b r; lefts = λ x y. rw (a.left x, b.left y) (r.lefts x y) }
        where
          boxes : Alike (cond (differ X X₁ n 0) (sweeps n p k X₁) settled) (sweeps n p k X₁) X₁
              → Alike (cond (differ Y Y₁ n 0) (sweeps n q k Y₁) settled) (sweeps n q k Y₁) Y₁
              → Along n (sweeps n p k X₁) X₁ (sweeps n q k Y₁) Y₁
              → (j : ℕ) → Inner n (box_after (after n X (done X₁) (λ Z. sweeps n p k Z)) j X) (box_after (after n Y (done Y₁) (λ Z. sweeps n q k Z)) j Y)
          boxes a b r zero = h
          boxes a b r (suc j) = rw (a.box j, b.box j) (r.boxes j)
