-- Pieces printed one after the other.
use mathlib.Core.Path.{◌≡◌}
use mathlib.Core.List.{List, [], ◌∷◌, ◌++◌, append_assoc}
use Prim.Native.Nat.{ℕ, zero, suc, ◌+◌, ◌-◌, ◌≤◌, ◌<◌}
use native.Mathlib.Omega.{arith}
use native.Mathlib.Numerals.{sub-one}
use lib.IntN.{ℤ}
use Rattle.inputs.specs.Place.{at}
use Rattle.report.specs.Sheet.{bound, further, bounds}

-- two pieces with a byte between them, after what there was
pub joined : (s a : List ℕ) (x : ℕ) (b : List ℕ) → ((s ++ a) ++ x ∷ []) ++ b ≡ s ++ (a ++ (x ∷ b))
joined s a x b = simp append_assoc

-- ---- a line of bounds: one turn of the loop that prints them, and its end; the bounds left are n − p
pub bounds_first : (n : ℕ) (x : List ℤ) → 1 ≤ n → bounds n 0 x ≡ bound (at x 0) ++ further (n - 1) 1 x
unfolding bounds
bounds_first zero x h = absurd (omega arith)
bounds_first (suc d) x h = rw sub-one

module _ (n p : ℕ) (x : List ℤ) where
  pub further_more : p < n → further (n - p) p x ≡ 59 ∷ (bound (at x p) ++ further (n - (p + 1)) (p + 1) x)
  unfolding further
  further_more h = let e : n - p ≡ suc (n - (p + 1)) = omega arith in rw e

  pub further_end : n ≤ p → further (n - p) p x ≡ []
  unfolding further
  further_end h = let e : n - p ≡ 0 = omega arith in rw e
