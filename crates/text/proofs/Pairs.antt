-- Pairs of numbers, one after the other in a list.
use mathlib.Core.Path.{◌≡◌}
use mathlib.Core.List.{List, [], ◌∷◌, ◌++◌, append_assoc}
use Prim.Native.Nat.{ℕ, suc, ◌+◌, ◌*◌, ◌≤◌}
use native.Mathlib.Omega.{arith}
use lib.ListN.{length, take, set, length-set}
use lib.Seq.{take-suc-set}

module _ {A : Type 0} (t : List A) where
  -- a pair written after the first p
  pub pair_set : (p : ℕ) (a b : A) → 2 * (p + 1) ≤ length t → take (2 * (p + 1)) (set (set t (2 * p) a) (2 * p + 1) b) ≡ take (2 * p) t ++ a ∷ b ∷ []
  pair_set p a b h =
      let d : 2 * (p + 1) ≡ suc (suc (2 * p)) = omega arith in
      let u : 2 * p + 1 ≡ suc (2 * p) = omega arith in
      rw (d, u, take-suc-set (set t (2 * p) a) (suc (2 * p)) b (simp length-set (omega arith)), take-suc-set t (2 * p) a (omega arith), append_assoc)
