-- The forward part keeps exact rows inside the intervals.
use mathlib.Core.Path.{◌≡◌, refl, ap₂, ◌∙◌, subst}
use mathlib.Core.Bool.{false}
use mathlib.Core.Logic.{◌≢◌, ◌⊎◌, inl, inr, ◌↔◌}
use mathlib.Core.List.{List}
use Prim.Native.Nat.{ℕ, zero, suc, ◌+◌, ◌-◌, ◌*◌, ◌≤◌, ◌<◌, min}
use native.Mathlib.Omega.{arith}
use native.Mathlib.Decide.{ℕ_discrete, dec_lt}
use lib.IntN.{ℤ, ◌*ℤ◌}
use lib.ListN.{length}
use Rattle.integer.proofs.Order.{both_pos}
use Rattle.interval.specs.declared.Interval.{Interval}
use Rattle.interval.specs.Interval.{contains_zero, exact_difference, product, quotient}
use Rattle.inputs.specs.Place.{at, put, cell}
use Rattle.inputs.proofs.Place.{length_put, at_put_same, at_put_other, cell_before}
use Rattle.outcome.specs.Run.{done}
use Rattle.outcome.proofs.Run.{done_same, joined}
use Rattle.forward.specs.Run.{rhs}
use Rattle.forward.specs.Pivot.{lowest_row, swapped}
use Rattle.forward.specs.Forward.{Table, reduced, columns, right_side, rows, pivots, forward}
use Rattle.inputs.proofs.Tests.{rows_apart}
use Rattle.forward.proofs.Run.{ranged, Stepped, stepped}
use Rattle.forward.proofs.Swap.{Swapped}
use Rattle.forward.proofs.Kept.{step_serves, step_swapped, step_long, step_room, step_apart}
use Rattle.accuracy.proofs.Written.{Written, written_none, written_more}
use Rattle.accuracy.proofs.Row.{Row, Holds, Met, reduce, square_above, factor_inside, reduced_inside}
use Rattle.accuracy.proofs.Steps.{row_at, row_at_cases, reduced_at, reduced_below, reduced_above, MetAt, met_exchanged, met_from, met_step}

-- ---- the columns of one row
abbrev column_value : (n k i : ℕ) → Interval → List ℤ → ℕ → Interval
column_value n k i m t l = reduced t (cell n i l) m (cell n k l)

module _ (n k i : ℕ) (m : Interval) (h : k < i) (g : i < n) where
  columns_done : (d j : ℕ) (t t' : List ℤ) → j + d ≤ n → 2 * (n * n + n) ≤ length t → columns n k i m d j t ≡ done t' → Written n i (column_value n k i m) d j t t'
  unfolding columns
  columns_done zero j t t' b room e = written_none n i (column_value n k i m) j t t' e
  columns_done (suc d) j t t' b room e =
      written_more n i (column_value n k i m) j t t' d g b room
      (λ l u v. ap₂ (λ x y. exact_difference x (product m y)) (at_put_other t (cell n i j) (cell n i l) _ (omega arith))
      (at_put_other t (cell n i j) (cell n k l) _ (omega (arith, rows_apart n k i h))))
      (columns_done d (j + 1) (put t (cell n i j) (column_value n k i m t j)) t' (omega arith) (rw length_put room) (ranged _ _ _ t' e).rest)

-- ---- one row: its factor takes the place of a(i,k), and the other rows stand
record Reduced (n k i : ℕ) (m : Interval) (t t' : List ℤ) : Type 0 where
  as_long : length t' ≡ length t
  new : (j : ℕ) → k < j → j < n → at t' (cell n i j) ≡ reduced t (cell n i j) m (cell n k j)
  right : at t' (rhs n i) ≡ reduced t (rhs n i) m (rhs n k)
  old : (l j : ℕ) → l < n → l ≢ i → j < n → at t' (cell n l j) ≡ at t (cell n l j)
  old_right : (l : ℕ) → l < n → l ≢ i → at t' (rhs n l) ≡ at t (rhs n l)

module _ (n k i : ℕ) (m : Interval) (h : k < i) (g : i < n) (t t₁ t' : List ℤ) (room : 2 * (n * n + n) ≤ length t) where
  row_done : columns n k i m (n - (k + 1)) (k + 1) (put t (cell n i k) m) ≡ done t₁ → right_side n k i m t₁ ≡ done t' → Reduced n k i m t t'
  unfolding right_side
  row_done c e =
      let f = columns_done n k i m h g (n - (k + 1)) (k + 1) (put t (cell n i k) m) t₁ (omega arith) (rw length_put room) c in
      subst (λ s. Reduced n k i m t s) (done_same (ranged _ _ _ t' e).rest) (go f)
    where
      v : Interval
      v = reduced t₁ (rhs n i) m (rhs n k)

      past : i * n + n ≤ n * n
      past = rows_apart n i n g

      before : k * n + n ≤ i * n
      before = rows_apart n k i h

      side : (l j : ℕ) → l < n → l ≢ i → j < n → Dec (l < i) → (cell n l j < cell n i k) ⊎ (cell n i k + (1 + (n - (k + 1))) ≤ cell n l j)
      side l j a b c (yes u) = inl (omega (arith, rows_apart n l i u))
      side l j a b c (no u) = let u' : i < l = omega (arith, u, b) in inr (omega (arith, rows_apart n i l u'))

      -- what stands outside the row from column k on is not changed
      kept : Written n i (column_value n k i m) (n - (k + 1)) (k + 1) (put t (cell n i k) m) t₁ → (p : ℕ) → (p < cell n i k) ⊎ (cell n i k + (1 + (n - (k + 1))) ≤ p) → at t₁ p ≡ at t p
      kept f p (inl u) = f.old p (inl (omega arith)) ∙ at_put_other t (cell n i k) p m (omega arith)
      kept f p (inr u) = f.old p (inr (omega arith)) ∙ at_put_other t (cell n i k) p m (omega arith)

      go : Written n i (column_value n k i m) (n - (k + 1)) (k + 1) (put t (cell n i k) m) t₁ → Reduced n k i m t (put t₁ (rhs n i) v)
      go f =
          record {
            as_long = length_put t₁ (rhs n i) v ∙ f.as_long ∙ length_put t (cell n i k) m;
            new = λ j a b.
                at_put_other t₁ (rhs n i) (cell n i j) v (omega (arith, past)) ∙ f.new j (omega arith) (omega arith) ∙
                ap₂ (λ x y. exact_difference x (product m y)) (at_put_other t (cell n i k) (cell n i j) m (omega arith))
                (at_put_other t (cell n i k) (cell n k j) m (omega (arith, before)));
            right =
                at_put_same t₁ (rhs n i) v (omega (arith, f.as_long, length_put t (cell n i k) m)) ∙
                ap₂ (λ x y. exact_difference x (product m y)) (kept f (rhs n i) (inr (omega (arith, past)))) (kept f (rhs n k) (inr (omega (arith, past))));
            old = λ l j a b c. at_put_other t₁ (rhs n i) (cell n l j) v (omega (arith, cell_before n l j a c)) ∙ kept f (cell n l j) (side l j a b c (dec_lt l i));
            old_right = λ l a b. at_put_other t₁ (rhs n i) (rhs n l) v (omega (arith, b)) ∙ kept f (rhs n l) (inr (omega (arith, past)));
          }

-- ---- exact rows
-- a row that stands at another place, from column s on
pub keep_row : {n : ℕ} {t t' : List ℤ} {l m s : ℕ} {r : Row} → ((j : ℕ) → s ≤ j → j < n → at t' (cell n l j) ≡ at t (cell n m j)) → at t' (rhs n l) ≡ at t (rhs n m) →
    Holds n t m s r → Holds n t' l s r
keep_row f g h = record { above = h.above; cells = λ j a b. rw (f j a b) (h.cells j a b); right = rw g h.right }

column : {n : ℕ} {t : List ℤ} {l s s' : ℕ} {r : Row} → s ≡ s' → Holds n t l s r → Holds n t l s' r
column {n} {t} {l} {r = r} e h = subst (λ s. Holds n t l s r) e h

module _ {n k i : ℕ} {t t' : List ℤ} {p r : Row} (b : k < n) (P : Holds n t k k p) (H : Holds n t i k r) (apart : contains_zero (at t (cell n k k)) ≡ false) where
  reduce_holds : Reduced n k i (quotient (at t (cell n i k)) (at t (cell n k k))) t t' → Holds n t' i (k + 1) (reduce k p r)
  unfolding reduce
  reduce_holds f =
      let e = p.left k in
      let above = square_above apart (P.cells k (omega arith) b) in
      let m = factor_inside (r.left k) e r.den p.den H.above P.above above apart (H.cells k (omega arith) b) (P.cells k (omega arith) b) in
      record {
        above = both_pos r.den (e *ℤ e) H.above above;
        cells = λ j a c.
            rw (f.new j (omega arith) c)
            (reduced_inside (r.left k) e r.den p.den H.above P.above above (r.left j) (p.left j) (H.cells j (omega arith) c) (P.cells j (omega arith) c) m);
        right = rw f.right (reduced_inside (r.left k) e r.den p.den H.above P.above above r.right p.right H.right P.right m);
      }

module _ (n : ℕ) where
  -- after k steps a row begins at its diagonal or, below the last pivot, at column k
  HoldsAt : ℕ → List ℤ → (ℕ → Row) → Type 0
  HoldsAt k t Q = (l : ℕ) → l < n → Holds n t l (min l k) (Q l)

  -- ---- the rows k and p change places
  swap_holds : (k p : ℕ) (t t' : List ℤ) (Q : ℕ → Row) → k ≤ p → p < n → Swapped n k p t t' → HoldsAt k t Q → HoldsAt k t' (λ l. Q (row_at k p l))
  unfolding HoldsAt
  swap_holds k p t t' Q h b w H l a =
      row_at_cases (λ l m. Holds n t' l (min l k) (Q m)) k p l
      (λ e. rw e (keep_row (λ j u v. w.first j (omega arith) v) w.first_right (column (omega arith) (H p b))))
      (λ e. rw e (keep_row (λ j u v. w.second j (omega arith) v) w.second_right (column (omega arith) (H k (omega arith)))))
      (λ e f. keep_row (λ j u v. w.other l j a v e f) (w.other_right l e f) (H l a))

  module _ (Q : ℕ → Row) where
    -- within step k, before row i
    record Within (k i : ℕ) (t : List ℤ) : Type 0 where
      reached : (l : ℕ) → l < n → l < i → Holds n t l (min l (k + 1)) (reduced_at k Q l)
      ahead : (l : ℕ) → l < n → i ≤ l → Holds n t l (min l k) (Q l)

    module _ {k i : ℕ} {t t' : List ℤ} (h : k < i) (g : i < n) (apart : contains_zero (at t (cell n k k)) ≡ false) (W : Within k i t) where
      within_next : Reduced n k i (quotient (at t (cell n i k)) (at t (cell n k k))) t t' → Within k (i + 1) t'
      within_next f =
          record {
            reached = λ l a b. go l a b (ℕ_discrete l i);
            ahead = λ l a b. stays l a (omega arith) (W.ahead l a (omega arith));
          }
        where
          stays : (l : ℕ) → l < n → l ≢ i → {s : ℕ} {r : Row} → Holds n t l s r → Holds n t' l s r
          stays l a b = keep_row (λ j u c. f.old l j a b c) (f.old_right l a b)

          pivot : Holds n t k k (Q k)
          pivot = rw (reduced_above k Q k (omega arith)) at (column {s' = k} (omega arith) (W.reached k (omega arith) h))

          go : (l : ℕ) → l < n → l < i + 1 → Dec (l ≡ i) → Holds n t' l (min l (k + 1)) (reduced_at k Q l)
          go l a b (yes e) =
              rw (e, reduced_below k Q i h)
              (column (omega arith) (reduce_holds (omega arith) pivot (column (omega arith) (W.ahead i g (omega arith))) apart f))
          go l a b (no e) = stays l a e (W.reached l a (omega (arith, e)))

    rows_hold : (k : ℕ) (pivot : Interval) → contains_zero pivot ≡ false → (d i : ℕ) (t t' : List ℤ) → k < i → i + d ≡ n → 2 * (n * n + n) ≤ length t → at t (cell n k k) ≡ pivot →
        Within k i t → rows n k pivot d i t ≡ done t' → HoldsAt (k + 1) t' (reduced_at k Q)
    unfolding rows HoldsAt
    rows_hold k pivot apart zero i t t' h b room p W e = subst (λ s. HoldsAt (k + 1) s (reduced_at k Q)) (done_same e) (λ l a. W.reached l a (omega arith))
    rows_hold k pivot apart (suc d) i t t' h b room p W e =
        let a = ranged _ _ _ t' e in
        let c = joined _ _ t' a.rest in
        let u = joined _ _ t' c.rest in
        let g : i < n = omega arith in
        let f = row_done n k i _ h g t c.mid u.mid room c.first u.first in
        rows_hold k pivot apart d (i + 1) u.mid t' (omega arith) (omega arith) (omega (arith, f.as_long)) (f.old k k (omega arith) (omega arith) (omega arith) ∙ p)
        (within_next h g (rw p apart) W (rw p f)) u.rest

  -- ---- a step, and the steps from k on: rows that the list then holds, which the same weights meet
  record Onward (k k' : ℕ) (t t' : List ℤ) (Q : ℕ → Row) : Type 0 where
    as_long : length t' ≡ length t
    left : ℕ → Row
    holds : HoldsAt k' t' left
    met : (w : ℕ → ℤ) (q : ℤ) → MetAt n w q k Q ↔ MetAt n w q k' left

  step_holds : (d k : ℕ) (s s' : Table) (Q : ℕ → Row) → k < n → 2 * (n * n + n) ≤ length s.numbers → HoldsAt k s.numbers Q → (x : Stepped lowest_row n d k s s') → Onward k (k + 1) s.numbers x.mid Q
  unfolding HoldsAt
  step_holds d k s s' Q b room H x =
      let v = step_serves n d k s s' b room x in
      let w = step_swapped n d k s s' b room x in
      let z = step_apart n d k s s' b room x in
      let P : ℕ → Row = λ l. Q (row_at k x.row l) in
      let G = swap_holds k x.row s.numbers _ Q v.from v.below w H in
      let W : Within P k (k + 1) (swapped n k x.row s.numbers) = record {
        reached = λ l a c. rw (reduced_above k P l (omega arith)) (column (omega arith) (G l a));
        ahead = λ l a c. G l a;
      } in
      let above = square_above z ((column {s' = k} (omega arith) (G k b)).cells k (omega arith) b) in record {
        as_long = step_long n d k s s' b room x;
        left = reduced_at k P;
        holds = rows_hold P k _ z (n - (k + 1)) (k + 1) _ x.mid (omega arith) (omega arith) (omega (arith, w.as_long, room)) refl W x.below;
        met = λ w q. let e = met_exchanged n w q k x.row v.from v.below Q in let f = met_step n w q k b P above in ((λ m. f.0 (e.0 m)), (λ m. e.1 (f.1 m)));
      }

  pivots_hold : (d k : ℕ) (s s' : Table) (Q : ℕ → Row) → k + d ≡ n → 2 * (n * n + n) ≤ length s.numbers → HoldsAt k s.numbers Q → pivots lowest_row n d k s ≡ done s' → Onward k n s.numbers s'.numbers Q
  unfolding pivots
  pivots_hold zero k s s' Q b room H e =
      let f : k ≡ n = omega arith in
      subst (λ (z : Table). Onward k n s.numbers z.numbers Q) (done_same e) (subst (λ m. Onward k m s.numbers s.numbers Q) f (record { as_long = refl; left = Q; holds = H; met = λ w q. ((λ m. m), (λ m. m)) }))
  pivots_hold (suc d) k s s' Q b room H e =
      let a : k < n = omega arith in
      let x = stepped lowest_row n d k s s' e in
      let f = step_holds d k s s' Q a room H x in
      let g = pivots_hold d (k + 1) _ s' f.left (omega arith) (step_room n d k s s' a room x) f.holds x.rest in record {
        as_long = g.as_long ∙ f.as_long;
        left = g.left;
        holds = g.holds;
        met = λ w q. let u = f.met w q in let v = g.met w q in ((λ m. v.0 (u.0 m)), (λ m. u.1 (v.1 m)));
      }

-- ---- from the whole rows to the triangle
pub record Triangle (n : ℕ) (t t' : List ℤ) (R : ℕ → Row) : Type 0 where
  pub as_long : length t' ≡ length t
  pub left : ℕ → Row
  pub holds : (l : ℕ) → l < n → Holds n t' l l (left l)
  pub met : (w : ℕ → ℤ) (q : ℤ) → ((l : ℕ) → l < n → Met n 0 (R l) w q) ↔ ((l : ℕ) → l < n → Met n l (left l) w q)

pub forward_holds : (n : ℕ) (R : ℕ → Row) (s s' : Table) → 2 * (n * n + n) ≤ length s.numbers → ((l : ℕ) → l < n → Holds n s.numbers l 0 (R l)) → forward lowest_row n s ≡ done s' → Triangle n s.numbers s'.numbers R
unfolding forward HoldsAt
forward_holds n R s s' room H e =
    let f = pivots_hold n n 0 s s' R (omega arith) room (λ l a. column (omega arith) (H l a)) e in record {
      as_long = f.as_long;
      left = f.left;
      holds = λ l a. column (omega arith) (f.holds l a);
      met = λ w q. let m = f.met w q in (
        (λ u l a. met_from n w q (omega arith) (m.0 (λ i b. met_from n w q (omega arith) (u i b)) l a)),
        (λ u l a. met_from n w q (omega arith) (m.1 (λ i b. met_from n w q (omega arith) (u i b)) l a)),
      );
    }
