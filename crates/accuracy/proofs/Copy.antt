-- What stands where: in the working copy, in the box that is written, in the balance of a system that holds A and f.
use mathlib.Core.Path.{◌≡◌, ap, ◌∙◌}
use mathlib.Core.List.{List}
use Prim.Native.Nat.{ℕ, ◌+◌, ◌*◌, ◌/◌, ◌%◌, ◌<◌}
use native.Mathlib.Omega.{arith}
use native.Mathlib.Nat.{zero-add, mul-add-div_right, div-eq_of_lt, mul-add-mod_self_right, mod-eq_of_lt}
use lib.IntN.{ℤ, pos}
use lib.ListN.{length, get_or, take, drop}
use lib.Seq.{get_or-take, get_or-drop}
use Rattle.interval.specs.Interval.{exact_difference}
use Rattle.interval.proofs.Range.{same_ends}
use Rattle.inputs.specs.Place.{at, cell}
use Rattle.inputs.specs.System.{System}
use Rattle.inputs.proofs.Place.{at_left, at_right, cell_before, numbers_at}
use Rattle.forward.specs.Run.{rhs}
use Rattle.forward.specs.Formed.{identity}
use Rattle.elimination.specs.Call.{copied, box}
use Rattle.accuracy.specs.Solution.{balance_of}

-- ---- the working copy: the matrix, then the right side
module _ (s : System) (h : length s.matrix ≡ 2 * (s.size * s.size)) where
  pub copied_cell : (i j : ℕ) → i < s.size → j < s.size → at (copied s) (cell s.size i j) ≡ at s.matrix (cell s.size i j)
  unfolding copied
  copied_cell i j a b = at_left s.matrix _ (cell s.size i j) (omega (arith, cell_before s.size i j a b))

  pub copied_right : length s.right ≡ 2 * s.size → (i : ℕ) → i < s.size → at (copied s) (rhs s.size i) ≡ at s.right i
  unfolding copied
  copied_right k i a = at_right s.matrix _ (s.size * s.size) i h ∙ at_left s.right _ i (omega arith)

-- ---- the box: the right side at the end
pub box_at : (n : ℕ) (t : List ℤ) (j : ℕ) → j < n → at (box n t) j ≡ at t (rhs n j)
unfolding box at
box_at n t j h = same_ends _ _ (go (2 * j) (2 * rhs n j) (omega arith) (omega arith)) (go (2 * j + 1) (2 * rhs n j + 1) (omega arith) (omega arith))
  where
    go : (p q : ℕ) → p < 2 * n → 2 * (n * n) + p ≡ q → get_or (take (2 * n) (drop (2 * (n * n)) t)) p (pos 0) ≡ get_or t q (pos 0)
    go p q a e = get_or-take (2 * n) (drop (2 * (n * n)) t) p (pos 0) a ∙ get_or-drop (2 * (n * n)) t p (pos 0) ∙ ap (λ z. get_or t z (pos 0)) e

-- ---- the balance
module _ (s : System) (i j : ℕ) (a : i < s.size) (b : j < s.size) where
  pub balance_cell : at (balance_of s).matrix (cell s.size i j) ≡ exact_difference (identity i j) (at s.matrix (cell s.size i j))
  unfolding balance_of
  balance_cell =
      let n = s.size in
      let z : 0 < n = omega arith in
      let row : cell n i j / n ≡ i = mul-add-div_right z i j ∙ rw (div-eq_of_lt b) (omega arith) in
      let column : cell n i j % n ≡ j = mul-add-mod_self_right i n j ∙ mod-eq_of_lt b in
      numbers_at _ (n * n) 0 (cell n i j) (cell_before n i j a b) ∙ rw (zero-add (cell n i j), row, column)
