-- The back part: from the triangle that the forward part leaves, each weight lies inside the interval found for it.
use mathlib.Core.Path.{◌≡◌, sym, ap, ◌∙◌}
use mathlib.Core.Bool.{false}
use mathlib.Core.List.{List}
use Prim.Native.Nat.{ℕ, zero, suc, ◌+◌, ◌-◌, ◌*◌, ◌≤◌, ◌<◌}
use native.Mathlib.Omega.{arith}
use native.Mathlib.Nat.{add_assoc, add-zero, zero-add}
use native.Mathlib.Decide.{ℕ_discrete}
use lib.IntN.{ℤ, pos, ◌+ℤ◌, ◌-ℤ◌, ◌*ℤ◌, +ℤ_idl}
use lib.ListN.{length}
use lib.Signed.{◌<ℤ◌}
use Rattle.integer.proofs.Linear.{reading, linear, ring, over}
use Rattle.interval.specs.declared.Interval.{Interval}
use Rattle.interval.specs.Interval.{scale, contains_zero, quotient}
use Rattle.fraction.specs.Fraction.{Fraction, Inside, Same, millionths, difference, product_at}
use Rattle.fraction.proofs.Inside.{same_refl, same_sym, inside_same}
use Rattle.fraction.proofs.Sum.{difference_inside}
use Rattle.fraction.proofs.Quotient.{quotient_inside}
use Rattle.inputs.specs.Place.{at, put, cell}
use Rattle.inputs.proofs.Place.{length_put, at_put_same, at_put_other, cell_before}
use Rattle.rows.specs.Sum.{RowSum}
use Rattle.rows.specs.Exact.{nought, exact_row, Encloses}
use Rattle.outcome.specs.Run.{done}
use Rattle.outcome.proofs.Run.{done_same}
use Rattle.forward.specs.Run.{rhs}
use Rattle.elimination.specs.Back.{numerator, back}
use Rattle.forward.specs.Code.{Pivots}
use Rattle.forward.proofs.Run.{ranged}
use Rattle.accuracy.proofs.Common.{ratio}
use Rattle.accuracy.proofs.Row.{Row, dot, Holds, Met}
use Rattle.accuracy.proofs.Sum.{parts, sum_same, dot_shift}
use Rattle.accuracy.proofs.Forward.{keep_row}

module _ (sum : RowSum) (encloses : Encloses sum) (n : ℕ) (w : ℕ → ℤ) (q : ℤ) (q-above : pos 0 <ℤ q) where
  -- w(j)/q lies inside the right side's interval j
  Found : List ℤ → ℕ → Type 0
  Found t j = Inside (at t (rhs n j)) (ratio (w j) q q-above)

  module _ {t : List ℤ} {i : ℕ} {r : Row} (b : i < n) (H : Holds n t i i r) (M : Met n i r w q) (later : (j : ℕ) → i < j → j < n → Found t j) where
    -- the products of the row after its diagonal
    sum_inside : Inside (sum t (cell n i (i + 1)) t (rhs n (i + 1)) (n - (i + 1))) (parts (dot r.left w (n - (i + 1)) (i + 1)) r.den q H.above q-above)
    unfolding Found
    sum_inside =
        inside_same (same_sym total)
        (encloses.holds t (cell n i (i + 1)) t (rhs n (i + 1)) (n - (i + 1)) c x
        (λ j h. rw (add_assoc (i * n) (i + 1) j) (H.cells (i + 1 + j) (omega arith) (omega arith)))
        (λ j h. rw (add_assoc (n * n) (i + 1) j) (later (i + 1 + j) (omega arith) (omega arith))))
      where
        c : ℕ → Fraction
        c j = ratio (r.left (i + 1 + j)) r.den H.above

        x : ℕ → Fraction
        x j = ratio (w (i + 1 + j)) q q-above

        none : (a : ℤ) → pos 0 *ℤ pos 1 ≡ pos 0 *ℤ a
        none = over 1 _ (λ ρ. simp (linear, ρ) (omega arith))

        total : Same (parts (dot r.left w (n - (i + 1)) (i + 1)) r.den q H.above q-above) (exact_row c x (n - (i + 1)) 0 nought)
        total =
            rw (+ℤ_idl, dot_shift r.left w (i + 1), add-zero) at
            (sum_same {b = c} {x = x} {c = λ j. r.left (i + 1 + j)} {w = λ j. w (i + 1 + j)} {h = H.above} {k = q-above} (λ j l. same_refl (c j)) (λ j l. same_refl (x j))
            (n - (i + 1)) 0 {u = pos 0} {a = nought} (zero-add (n - (i + 1))) (record { holds = none (r.den *ℤ q *ℤ scale) }))

    weight_inside : contains_zero (at t (cell n i i)) ≡ false → Inside (quotient (numerator sum n i t) (at t (cell n i i))) (ratio (w i) q q-above)
    unfolding numerator difference product_at dot
    weight_inside z =
        quotient_inside millionths z (difference_inside H.right sum_inside) (H.cells i (omega arith) b)
        (record { holds = exact (r.left i) (w i) _ r.right r.den q scale (M.exact (suc (n - (i + 1))) (omega arith)) })
      where
        alone : (l x t g q s : ℤ) → l *ℤ x +ℤ t ≡ s *ℤ (g *ℤ q) → t ≡ s *ℤ (g *ℤ q) -ℤ l *ℤ x
        alone = over 6 _ (λ ρ. simp linear (omega arith))

        same : (l x g m q s : ℤ) → (x *ℤ l) *ℤ (m *ℤ (m *ℤ q *ℤ s)) ≡ (g *ℤ (m *ℤ q *ℤ s) -ℤ (s *ℤ (g *ℤ q) -ℤ l *ℤ x) *ℤ m) *ℤ (q *ℤ m *ℤ s)
        same = over 6 _ (λ ρ. simp reading (ring _ _ _ tt))

        exact : (l x t g m q s : ℤ) → l *ℤ x +ℤ t ≡ s *ℤ (g *ℤ q) → (x *ℤ l) *ℤ (m *ℤ (m *ℤ q *ℤ s)) ≡ (g *ℤ (m *ℤ q *ℤ s) -ℤ t *ℤ m) *ℤ (q *ℤ m *ℤ s)
        exact l x t g m q s e = same l x g m q s ∙ ap (λ z. (g *ℤ (m *ℤ q *ℤ s) -ℤ z *ℤ m) *ℤ (q *ℤ m *ℤ s)) (sym (alone l x t g q s e))

  module _ (R : ℕ → Row) (M : (l : ℕ) → l < n → Met n l (R l) w q) where
    -- the rows i − 1, .., 0
    back_inside : (i : ℕ) (t t' : List ℤ) → i ≤ n → 2 * (n * n + n) ≤ length t → Pivots n t → ((l : ℕ) → l < i → Holds n t l l (R l)) →
        ((j : ℕ) → i ≤ j → j < n → Found t j) → back sum n i t ≡ done t' → (j : ℕ) → j < n → Found t' j
    unfolding back Found
    back_inside zero t t' b room P H later e = λ j h. rw (← (done_same e)) (later j (omega arith) h)
    back_inside (suc i) t t' b room P H later e =
        back_inside i (put t (rhs n i) v) t' (omega arith) (rw length_put room)
        (record { each = λ k h. rw (apart k k h h) (P.each k h) })
        (λ l h. keep_row (λ j u k. apart l j (omega arith) k) (at_put_other t (rhs n i) (rhs n l) v (omega arith)) (H l (omega arith)))
        (λ j a c. here j a c (ℕ_discrete j i))
        (ranged _ _ _ t' (ranged _ _ _ t' e).rest).rest
      where
        v : Interval
        v = quotient (numerator sum n i t) (at t (cell n i i))

        -- no cell changes
        apart : (l j : ℕ) → l < n → j < n → at (put t (rhs n i) v) (cell n l j) ≡ at t (cell n l j)
        apart l j h k = at_put_other t (rhs n i) (cell n l j) v (omega (arith, cell_before n l j h k))

        here : (j : ℕ) → i ≤ j → j < n → Dec (j ≡ i) → Inside (at (put t (rhs n i) v) (rhs n j)) (ratio (w j) q q-above)
        here j a c (yes f) =
            rw (f, at_put_same t (rhs n i) v (omega arith))
            (weight_inside b (H i (omega arith)) (M i b) (λ j k l. later j (omega arith) l) (P.each i b))
        here j a c (no f) = rw (at_put_other t (rhs n i) (rhs n j) v (omega (arith, f))) (later j (omega (arith, f)) c)

    pub back_holds : (t t' : List ℤ) → 2 * (n * n + n) ≤ length t → Pivots n t → ((l : ℕ) → l < n → Holds n t l l (R l)) → back sum n n t ≡ done t' →
        (j : ℕ) → j < n → Inside (at t' (rhs n j)) (ratio (w j) q q-above)
    unfolding Found
    back_holds t t' room P H e = back_inside n t t' (omega arith) room P H (λ j a c. absurd (omega arith)) e
