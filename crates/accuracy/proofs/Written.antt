-- Loops that write one cell of a row after the other, each from what the cells to its right and the other rows hold.
use mathlib.Core.Path.{◌≡◌, sym, ap, ◌∙◌}
use mathlib.Core.Logic.{◌≢◌, ◌⊎◌, inl, inr}
use mathlib.Core.List.{List}
use Prim.Native.Nat.{ℕ, suc, ◌+◌, ◌*◌, ◌≤◌, ◌<◌}
use native.Mathlib.Omega.{arith}
use native.Mathlib.Decide.{ℕ_discrete}
use lib.IntN.{ℤ}
use lib.ListN.{length}
use Rattle.interval.specs.declared.Interval.{Interval}
use Rattle.inputs.specs.Place.{at, put, cell}
use Rattle.inputs.proofs.Place.{length_put, at_put_same, at_put_other, cell_before}
use Rattle.outcome.specs.Run.{done}
use Rattle.outcome.proofs.Run.{done_same}

-- d cells of row i from column j on have changed from t to t', that of column l to f t l
pub record Written (n i : ℕ) (f : List ℤ → ℕ → Interval) (d j : ℕ) (t t' : List ℤ) : Type 0 where
  pub as_long : length t' ≡ length t
  pub new : (l : ℕ) → j ≤ l → l < j + d → at t' (cell n i l) ≡ f t l
  pub old : (p : ℕ) → (p < cell n i j) ⊎ (cell n i j + d ≤ p) → at t' p ≡ at t p

module _ (n i : ℕ) (f : List ℤ → ℕ → Interval) (j : ℕ) (t t' : List ℤ) where
  pub written_none : done t ≡ done t' → Written n i f 0 j t t'
  written_none e =
      let q = done_same e in
      record { as_long = ap length (sym q); new = λ l u v. absurd (omega arith); old = λ p u. ap (λ s. at s p) (sym q) }

  -- the first of them, which does not bear on the others
  pub written_more : (d : ℕ) → i < n → j + suc d ≤ n → 2 * (n * n + n) ≤ length t →
      ((l : ℕ) → j < l → l < n → f (put t (cell n i j) (f t j)) l ≡ f t l) →
      Written n i f d (j + 1) (put t (cell n i j) (f t j)) t' → Written n i f (suc d) j t t'
  written_more d g b room apart w =
      record {
        as_long = w.as_long ∙ length_put t (cell n i j) (f t j);
        new = λ l u v. new l u v (ℕ_discrete l j);
        old = λ p u. w.old p (outside p u) ∙ at_put_other t (cell n i j) p (f t j) (elsewhere p u);
      }
    where
      outside : (p : ℕ) → (p < cell n i j) ⊎ (cell n i j + suc d ≤ p) → (p < cell n i (j + 1)) ⊎ (cell n i (j + 1) + d ≤ p)
      outside p (inl u) = inl (omega arith)
      outside p (inr u) = inr (omega arith)

      elsewhere : (p : ℕ) → (p < cell n i j) ⊎ (cell n i j + suc d ≤ p) → p ≢ cell n i j
      elsewhere p (inl u) = omega arith
      elsewhere p (inr u) = omega arith

      new : (l : ℕ) → j ≤ l → l < j + suc d → Dec (l ≡ j) → at t' (cell n i l) ≡ f t l
      new l u v (yes q) = rw q (w.old (cell n i j) (inl (omega arith)) ∙ at_put_same t (cell n i j) (f t j) (omega (arith, cell_before n i j g (omega arith))))
      new l u v (no q) = w.new l (omega (arith, q)) (omega arith) ∙ apart l (omega (arith, q)) (omega arith)
