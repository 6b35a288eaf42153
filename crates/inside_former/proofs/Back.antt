-- Back-substitution with its numerators rounded once goes to its end where it did with products rounded singly, with narrower solutions;
-- where it stops, it stopped before, at that row or earlier.
use mathlib.Core.Path.{◌≡◌, refl, sym, ◌∙◌, subst}
use mathlib.Core.Bool.{Bool, true, false, cond}
use mathlib.Core.List.{List}
use Prim.Native.Nat.{ℕ, zero, suc, ◌+◌, ◌-◌, ◌*◌, ◌≤◌, ◌<◌}
use native.Mathlib.Omega.{arith}
use native.Mathlib.Nat.{add_assoc, le_refl}
use native.Mathlib.Decide.{ℕ_discrete}
use lib.Dec.{T}
use lib.IntN.{ℤ}
use lib.Signed.{◌≤ℤ◌}
use Rattle.outcome.specs.declared.Refusal.{Refusal}
use Rattle.outcome.specs.declared.Refusal.TheVariants as refusal
use Rattle.outcome.specs.Table.{number_and_place}
use Rattle.outcome.specs.Run.{Run, refused, done}
use Rattle.outcome.proofs.Run.{Refuses, refuses_done, refuses_with, refuses_cond}
use Rattle.interval.specs.declared.Interval.{Interval}
use Rattle.interval.specs.Interval.{in_range, quotient}
use Rattle.interval.proofs.Range.{is_sound}
use Rattle.inputs.specs.Place.{at, put, cell}
use Rattle.inputs.proofs.Place.{at_put_same, at_put_other, cell_before}
use Rattle.rows.specs.Sum.{RowSum, once, singly}
use Rattle.rows.proofs.Once.{Narrow, once_inside, once_order}
use Rattle.forward.specs.Run.{in_range_then, rhs}
use Rattle.forward.specs.Pivot.{lowest_row}
use Rattle.forward.specs.Forward.{Table, table, forward}
use Rattle.forward.specs.Code.{Working, Pivots}
use Rattle.forward.proofs.Kept.{forward_pivots}
use Rattle.elimination.specs.Back.{numerator, back}
use Rattle.elimination.specs.Call.{none_taken}
use Rattle.fraction.proofs.Contains.{contains_refl}
use Rattle.inside_former.proofs.Narrow.{wide_order, difference_narrow, quotient_narrow, range_narrow}
use Rattle.inside_former.proofs.Working.{working_put, pivots_put, forward_working}
use Rattle.std.specs.Prelude.{Err}

-- ---- a 6, at this row or at one that is reached later
abbrev Six : (row : ℕ) → Refusal → Type 0
Six row o = ((number_and_place (Err o)).number ≡ 6) × ((number_and_place (Err o)).place ≤ row)

six_range : (c row : ℕ) (v : Interval) (f : Interval → Run (List ℤ)) → row ≤ c → ((w : Interval) → Refuses (Six c) (f w)) → Refuses (Six c) (in_range_then row v f)
unfolding in_range_then
six_range c row v f h k = refuses_cond (Six c) (in_range v) _ _ (k v) (refuses_with (Six c) (refusal.OutOfRange row) (refl, h))

six_back : (sum : RowSum) (n c i : ℕ) (t : List ℤ) → i ≤ c → Refuses (Six c) (back sum n i t)
unfolding back
six_back sum n c zero t h = refuses_done (Six c) t
six_back sum n c (suc i) t h =
    six_range c (i + 1) _ _ (omega arith) (λ v. six_range c (i + 1) _ _ (omega arith) (λ w. six_back sum n c i _ (omega arith)))

module _ (n : ℕ) where
  -- the same cells, the same right side before row i, and narrower solutions from row i on
  pub record Inner (i : ℕ) (t t₁ : List ℤ) : Type 0 where
    pub former : Working n t
    pub new : Working n t₁
    pub cells : (l j : ℕ) → l < n → j < n → at t₁ (cell n l j) ≡ at t (cell n l j)
    pub earlier : (l : ℕ) → l < i → at t₁ (rhs n l) ≡ at t (rhs n l)
    pub later : (l : ℕ) → i ≤ l → l < n → Narrow (at t (rhs n l)) (at t₁ (rhs n l))

  numerator_narrow : {i : ℕ} {t t₁ : List ℤ} → i < n → Inner (suc i) t t₁ → Narrow (numerator singly n i t) (numerator once n i t₁)
  unfolding numerator
  numerator_narrow {i} {t} {t₁} b h =
      let order : (p : ℕ) → (at t p).lo ≤ℤ (at t p).hi = λ p. (is_sound (at t p) (h.former.sound.each p)).order in
      rw (h.earlier i (omega arith))
      (difference_narrow (at t (rhs n i)) (order _)
      (once_inside t (cell n i (i + 1)) t (rhs n (i + 1)) t₁ t₁ (n - (i + 1))
      (λ j l. rw (add_assoc (i * n) (i + 1) j, h.cells i (i + 1 + j) b (omega arith)) (record { inside = contains_refl _; order = order _ }))
      (λ j l. rw (add_assoc (n * n) (i + 1) j) (h.later (i + 1 + j) (omega arith) (omega arith))))
      (once_order t₁ (cell n i (i + 1)) t₁ (rhs n (i + 1)) (n - (i + 1))))

  put_inner : {i : ℕ} {t t₁ : List ℤ} {v w : Interval} → i < n → Inner (suc i) t t₁ → Narrow v w → in_range v ≡ true → in_range w ≡ true →
      Inner i (put t (rhs n i) v) (put t₁ (rhs n i) w)
  put_inner {i} {t} {t₁} {v} {w} b h k e f =
      record {
        former = working_put (rhs n i) v h.former (omega (arith, h.former.room)) (wide_order k) e;
        new = working_put (rhs n i) w h.new (omega (arith, h.new.room)) k.order f;
        cells = λ l j c d.
            at_put_other t₁ (rhs n i) (cell n l j) w (omega (arith, cell_before n l j c d)) ∙ h.cells l j c d ∙
            sym (at_put_other t (rhs n i) (cell n l j) v (omega (arith, cell_before n l j c d)));
        earlier = λ l c.
            at_put_other t₁ (rhs n i) (rhs n l) w (omega arith) ∙ h.earlier l (omega arith) ∙ sym (at_put_other t (rhs n i) (rhs n l) v (omega arith));
        later = λ l c d. later l c d (ℕ_discrete l i);
      }
    where
      later : (l : ℕ) → i ≤ l → l < n → Dec (l ≡ i) → Narrow (at (put t (rhs n i) v) (rhs n l)) (at (put t₁ (rhs n i) w) (rhs n l))
      later l c d (yes q) = rw (q, at_put_same t (rhs n i) v (omega (arith, h.former.room)), at_put_same t₁ (rhs n i) w (omega (arith, h.new.room))) k
      later l c d (no q) =
          rw (at_put_other t (rhs n i) (rhs n l) v (omega (arith, q)), at_put_other t₁ (rhs n i) (rhs n l) w (omega (arith, q))) (h.later l (omega (arith, q)) d)

  -- ---- the former run and the new one
  abbrev pub OnRuns : Run (List ℤ) → Run (List ℤ) → Type 0
  OnRuns (done t) (done t₁) = Inner 0 t t₁
  OnRuns (done t) (refused p) = ⊥
  OnRuns (refused o) r = ((number_and_place (Err o)).number ≡ 6) × Refuses (Six (number_and_place (Err o)).place) r

  -- where the former goes on so does the new one, and where the former stops the new one may stop later
  tests : (row : ℕ) (v w : Interval) (f g : Interval → Run (List ℤ)) → Narrow v w → ((u : Interval) → Refuses (Six row) (g u)) →
      (in_range v ≡ true → in_range w ≡ true → OnRuns (f v) (g w)) → OnRuns (in_range_then row v f) (in_range_then row w g)
  unfolding in_range_then
  tests row v w f g h s k = go (in_range v) refl (in_range w) refl (six_range row row w g (le_refl row) s)
    where
      go : (a : Bool) → in_range v ≡ a → (b : Bool) → in_range w ≡ b → Refuses (Six row) (cond b (g w) (refused (refusal.OutOfRange row))) →
          OnRuns (cond a (f v) (refused (refusal.OutOfRange row))) (cond b (g w) (refused (refusal.OutOfRange row)))
      go false e b e₁ s = (refl, s)
      go true e true e₁ s = k e e₁
      go true e false e₁ s = absurd (subst (λ (t : Bool). T t) (sym (range_narrow h e) ∙ e₁) tt)

  back_inner : (i : ℕ) (t t₁ : List ℤ) → i ≤ n → Pivots n t → Inner i t t₁ → OnRuns (back singly n i t) (back once n i t₁)
  unfolding back
  back_inner zero t t₁ b P h = h
  back_inner (suc i) t t₁ b P h =
      tests (i + 1) _ _ _ _ num (λ v. six_range (i + 1) (i + 1) _ _ (le_refl (i + 1)) later) (λ e e₁.
      tests (i + 1) _ _ _ _ quo later (λ f f₁.
      back_inner i (put t (rhs n i) (quotient (numerator singly n i t) (at t (cell n i i)))) (put t₁ (rhs n i) (quotient (numerator once n i t₁) (at t₁ (cell n i i)))) (omega arith)
      (pivots_put i _ P)
      (put_inner (omega arith) h quo f f₁)))
    where
      later : (u : Interval) → Refuses (Six (i + 1)) (back once n i (put t₁ (rhs n i) u))
      later u = six_back once n (i + 1) i _ (omega arith)

      num : Narrow (numerator singly n i t) (numerator once n i t₁)
      num = numerator_narrow (omega arith) h

      quo : Narrow (quotient (numerator singly n i t) (at t (cell n i i))) (quotient (numerator once n i t₁) (at t₁ (cell n i i)))
      quo =
          rw (h.cells i i (omega arith) (omega arith))
          (quotient_narrow (at t (cell n i i)) num (is_sound (at t (cell n i i)) (h.former.sound.each _)).order (P.each i (omega arith)))

  -- from what the forward part leaves
  pub run_inner : (t : List ℤ) (s : Table) → Working n t → forward lowest_row n (table t none_taken) ≡ done s → OnRuns (back singly n n s.numbers) (back once n n s.numbers)
  run_inner t s w e =
      let w₁ = forward_working n (table t none_taken) s w e in
      back_inner n s.numbers s.numbers (omega arith) (forward_pivots n (table t none_taken) s w.room e)
      (record { former = w₁; new = w₁; cells = λ l j c d. refl; earlier = λ l c. refl; later = λ l c d. absurd (omega arith) })
