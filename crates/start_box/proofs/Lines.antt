-- The lines of a matrix that the code goes through are its rows and its columns.
use mathlib.Core.Path.{◌≡◌, ap, ◌∙◌}
use mathlib.Core.List.{List}
use Prim.Native.Nat.{ℕ, ◌+◌, ◌*◌, ◌≤◌, ◌<◌}
use native.Mathlib.Omega.{arith}
use lib.IntN.{ℤ, ◌+ℤ◌}
use lib.ListN.{length}
use mir.Syntax.{w64}
use mir.Val.{SFits, to_z, of_z}
use Rattle.integer.specs.Total.{total}
use Rattle.integer.proofs.Summing.{Term, add_safe, add_is}
use Rattle.interval.specs.declared.Interval.{Interval}
use Rattle.inputs.specs.Place.{at}
use Rattle.inputs.specs.System.{system}
use Rattle.inputs.proofs.Tests.{square}
use Rattle.start_box.specs.Sums.{magnitude, row_sum, column_sum}
use Rattle.start_box.specs.Reach.{coefficients}
use Rattle.start_box.specs.Ready.{Square, Lines}
use Rattle.start_box.specs.Code.{line_sum}
use Rattle.start_box.proofs.Magnitude.{magnitude_term}

module _ (n : ℕ) where
  module _ (m r : List ℤ) where
    pub row_line : line_sum n m n 1 ≡ row_sum (coefficients (system n m r)) n
    unfolding line_sum row_sum
    row_line = λ t i. total (λ k. magnitude (at m (same i k t))) n 0
      where
        same : (i k : ℕ) → i * n + k * 1 ≡ i * n + k
        same i k = omega arith

    pub column_line : line_sum n m 1 n ≡ column_sum (coefficients (system n m r)) n
    unfolding line_sum column_sum
    column_line = λ t i. total (λ k. magnitude (at m (same i k t))) n 0
      where
        same : (i k : ℕ) → i * 1 + k * n ≡ k * n + i
        same i k = omega arith

-- ---- a place of a line
module _ {n a b : ℕ} {m : List ℤ} (s : Square n m) (w : Lines n a b) (i k : ℕ) (h : i < n) (l : k < n) where
  pub line_small : i * a + k * b ≤ 1023
  line_small = omega (arith, w.inside i k h l, square n s.few)

  pub line_room : 2 * (i * a + k * b) + 1 < length m
  line_room = omega (arith, w.inside i k h l, s.long)

-- ---- the sum of a line
module _ {n : ℕ} {m : List ℤ} (s : Square n m) (a b i : ℕ) where
  abbrev entry : ℕ → ℤ
  entry k = magnitude (at m (i * a + k * b))

  pub line_term : (k : ℕ) → Term 2000000000 (entry k)
  line_term k = magnitude_term _ (s.sound.each _)

  few : 2000000000 * n ≤ 1000000000000000000
  few = omega (arith, s.few)

  -- with the next entry
  module _ (k : ℕ) (h : k < n) {sum : ℤ} {v : Interval} (e : sum ≡ total entry k 0) (g : v ≡ at m (i * a + k * b)) {z : ℤ} (f : z ≡ magnitude v) where
    pub line_safe : SFits w64 (sum +ℤ to_z w64 (of_z w64 z))
    line_safe = add_safe entry 2000000000 n (λ l q. line_term l) few k h e (f ∙ ap magnitude g)

    pub line_next : to_z w64 (of_z w64 (sum +ℤ to_z w64 (of_z w64 z))) ≡ total entry (k + 1) 0
    line_next = add_is entry 2000000000 n (λ l q. line_term l) few k h e (f ∙ ap magnitude g)
