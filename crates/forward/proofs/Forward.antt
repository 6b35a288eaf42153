-- One turn of each of the loops over k, i and j; what is left of a loop that runs to n is n − its index.
use mathlib.Core.Path.{◌≡◌, sym, ap, ◌∙◌}
use mathlib.Core.Bool.{true, false}
use mathlib.Core.List.{List}
use Prim.Native.Nat.{ℕ, ◌+◌, ◌-◌, ◌≤◌, ◌<◌}
use native.Mathlib.Omega.{arith}
use native.Mathlib.Nat.{sub-zero}
use lib.IntN.{ℤ, pos}
use lib.ListN.{set}
use Rattle.outcome.specs.declared.Refusal.{Refusal}
use Rattle.interval.specs.declared.Interval.{Interval}
use Rattle.interval.specs.Interval.{acceptable, contains_zero, quotient}
use Rattle.inputs.specs.Place.{at, cell}
use Rattle.inputs.specs.Code.{Sound}
use Rattle.std.specs.Prelude.{Result, Ok, Err, IsErrAnd}
use Rattle.outcome.specs.Run.{Run, refused, done, and_then}
use Rattle.outcome.proofs.Run.{carried}
use Rattle.forward.specs.Run.{rhs}
use Rattle.forward.specs.Pivot.{lowest_row, swapped}
use Rattle.forward.specs.Forward.{Table, table, taking, reduced, columns, right_side, rows, pivots, forward}
use Rattle.forward.specs.Code.{Working, Placed, Ran, row_of, taking_of, Took}
use Rattle.forward.proofs.Value.{quotient_accepted}
use Rattle.forward.proofs.Step.{turn, not_err, placed_go, placed_stop, placed_turn, placed_ran, Turned, turned}
use Rattle.forward.proofs.Pivot.{Serves, serves}
use Rattle.forward.proofs.Swap.{rows_swapped, swapped_working}

-- ---- the columns
module _ (n k i : ℕ) (m : Interval) (j : ℕ) (t : List ℤ) where
  pub columns_end : n ≤ j → columns n k i m (n - j) j t ≡ done t
  unfolding columns
  columns_end h = let e : n - j ≡ 0 = omega arith in rw e

  pub columns_turn : {r : Result (Unit {0}) Refusal} {t' : List ℤ} → j < n → Placed tt (i + 1) (reduced t (cell n i j) m (cell n k j)) (cell n i j) t r t' →
      Turned (columns n k i m (n - j) j t) r t' (λ t'. columns n k i m (n - (j + 1)) (j + 1) t')
  unfolding columns
  columns_turn h p = turned (rw (turn n j h) (placed_turn p _))

-- ---- the right side
pub right_side_ran : (n k i : ℕ) (m : Interval) (t : List ℤ) {r : Result (Unit {0}) Refusal} {t' : List ℤ} → Placed tt (i + 1) (reduced t (rhs n i) m (rhs n k)) (rhs n i) t r t' → Ran (right_side n k i m t) r t'
unfolding right_side
right_side_ran n k i m t p = placed_ran p

-- ---- the rows
module _ (n k : ℕ) (p : Interval) (i : ℕ) (t : List ℤ) where
  pub rows_end : n ≤ i → rows n k p (n - i) i t ≡ done t
  unfolding rows
  rows_end h = let e : n - i ≡ 0 = omega arith in rw e

  module _ {u : Result Interval Refusal} {t₁ : List ℤ} (h : i < n) (q : let v = quotient (at t (cell n i k)) p in Placed v (i + 1) v (cell n i k) t u t₁) where
    -- what a row does after its factor
    abbrev after : Interval → List ℤ → Run (List ℤ)
    after m t = and_then (columns n k i m (n - (k + 1)) (k + 1) t) (λ t₂. and_then (right_side n k i m t₂) (λ t₃. rows n k p (n - (i + 1)) (i + 1) t₃))

    pub rows_no : {o : Refusal} → u ≡ Err o → rows n k p (n - i) i t ≡ refused o
    unfolding rows and_then
    rows_no e = rw (turn n i h) (placed_stop q after e)

    module _ {m : Interval} (e : u ≡ Ok m) where
      factored : rows n k p (n - i) i t ≡ after m t₁
      unfolding rows and_then
      factored = let g = placed_go q after e in rw (turn n i h, g.0) g.2

      pub rows_stop : {o : Refusal} → columns n k i m (n - (k + 1)) (k + 1) t₁ ≡ refused o → rows n k p (n - i) i t ≡ refused o
      unfolding and_then
      rows_stop f = rw f at factored

      pub rows_turn : {t₂ t₃ : List ℤ} {r : Result (Unit {0}) Refusal} → columns n k i m (n - (k + 1)) (k + 1) t₁ ≡ done t₂ → Ran (right_side n k i m t₂) r t₃ →
          Turned (rows n k p (n - i) i t) r t₃ (λ t₃. rows n k p (n - (i + 1)) (i + 1) t₃)
      unfolding and_then
      rows_turn f g = turned (rw (f, ← g.is) at factored)

-- the factor that a row goes on with is an interval
pub factor_accepted : (n k i : ℕ) (p : Interval) (t t₁ : List ℤ) (u : Result Interval Refusal) (m : Interval) → (let v = quotient (at t (cell n i k)) p in Placed v (i + 1) v (cell n i k) t u t₁) → u ≡ Ok m
    → acceptable (at t (cell n i k)) ≡ true → acceptable p ≡ true → contains_zero p ≡ false → acceptable m ≡ true
factor_accepted n k i p t t₁ u m q e a b z = let g = placed_go q (λ v t. done t) e in rw g.0 (quotient_accepted _ p a b z g.1)

-- ---- step k takes its row
module _ (n k : ℕ) (s : Table) where
  pub took_none : {r : Result ℕ Refusal} {u : Result Interval Refusal} {o : Refusal} → Sound s.numbers → row_of r ≡ lowest_row n k s.numbers → r ≡ Err o → IsErrAnd u (λ p. p ≡ o) → Took n k s u s
  unfolding taking and_then
  took_none w e f h =
      let c = carried _ _ h in
      record {
        is = rw (c, sym e ∙ ap row_of f);
        pivot = λ p g. absurd (not_err (sym g ∙ c));
        sound = w;
      }

  module _ {r : Result ℕ Refusal} {i : ℕ} (h : k < n) (w : Working n s.numbers) (e : row_of r ≡ lowest_row n k s.numbers) (f : r ≡ Ok i) where
    chosen : lowest_row n k s.numbers ≡ done i
    chosen = sym e ∙ ap row_of f

    pub row_serves : Serves n k i s.numbers
    row_serves = serves n k s.numbers i h chosen

    pub took_row : {t₁ r₁ : List ℤ} {p : Interval} → t₁ ≡ swapped n k i s.numbers → r₁ ≡ set s.taken k (pos i) → p ≡ at t₁ (cell n k k) → Took n k s (Ok p) (table t₁ r₁)
    unfolding taking and_then
    took_row {t₁} {r₁} {p} a b c =
        let m = rows_swapped n k i row_serves.below s.numbers w.room row_serves.from in
        record {
          is = rw (chosen, a, b);
          pivot = λ q g. let d : p ≡ q = cc in (sym d ∙ c, ap contains_zero (sym d ∙ c ∙ ap (λ t. at t (cell n k k)) a ∙ m.first k (omega arith) h) ∙ row_serves.apart);
          sound = rw a (swapped_working n k i h row_serves.below s.numbers w).sound;
        }

-- ---- the pivots
module _ (n k : ℕ) (s : Table) where
  pub pivots_end : n ≤ k → pivots lowest_row n (n - k) k s ≡ done s
  unfolding pivots
  pivots_end h = let e : n - k ≡ 0 = omega arith in rw e

  module _ {u : Result Interval Refusal} {s₁ : Table} (h : k < n) (q : Took n k s u s₁) where
    pub pivots_no : {o : Refusal} → u ≡ Err o → pivots lowest_row n (n - k) k s ≡ refused o
    unfolding pivots and_then
    pivots_no e = rw (turn n k h, sym q.is ∙ ap (λ u. taking_of u s₁) e)

    module _ {p : Interval} (e : u ≡ Ok p) where
      took : taking lowest_row n k s ≡ done s₁
      took = sym q.is ∙ ap (λ u. taking_of u s₁) e

      pub pivots_stop : {o : Refusal} → rows n k p (n - (k + 1)) (k + 1) s₁.numbers ≡ refused o → pivots lowest_row n (n - k) k s ≡ refused o
      unfolding pivots and_then
      pivots_stop f = rw (turn n k h, took, rw (q.pivot p e).0 at f)

      pub pivots_go : {t : List ℤ} → rows n k p (n - (k + 1)) (k + 1) s₁.numbers ≡ done t → pivots lowest_row n (n - k) k s ≡ pivots lowest_row n (n - (k + 1)) (k + 1) (table t s₁.taken)
      unfolding pivots and_then
      pivots_go f = rw (turn n k h, took, rw (q.pivot p e).0 at f)

-- the whole forward part, from the loop over the pivots
pub forward_from : (n : ℕ) (s : Table) (r : Run Table) → pivots lowest_row n (n - 0) 0 s ≡ r → forward lowest_row n s ≡ r
unfolding forward
forward_from n s r e = ap (λ (d : ℕ). pivots lowest_row n d 0 s) (sym (sub-zero n)) ∙ e
