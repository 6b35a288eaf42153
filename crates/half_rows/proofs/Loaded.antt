-- One turn of the loop that works out the sums right of the diagonal, and the parts of a state that is loaded over another one.
use mathlib.Core.Path.{◌≡◌}
use mathlib.Core.Bool.{true, false}
use mathlib.Core.List.{List}
use Prim.Native.Nat.{ℕ, suc, ◌+◌, ◌-◌, ◌*◌, ◌≤◌, ◌<◌}
use native.Mathlib.Omega.{arith}
use lib.IntN.{ℤ}
use lib.ListN.{take, drop}
use Rattle.interval.specs.declared.Interval.{Interval}
use Rattle.interval.specs.Interval.{zero}
use Rattle.inputs.specs.System.{System}
use Rattle.inputs.proofs.Tests.{rows_apart}
use Rattle.rows.specs.Sum.{exactly}
use Rattle.kept_sums.specs.Kept.{put_sum}
use Rattle.half_rows.specs.Rows.{first, beside, side, sides}
use Rattle.half_rows.specs.State.{sums_place, with_turn, with_box, with_sums, with_system}
use Rattle.half_rows.specs.Operations.{loaded_over}

-- ---- row i; the rows left are n − i
module _ (s : System) (X : List ℤ) (i : ℕ) (K : List ℤ) where
  pub sides_end : s.size ≤ i → sides true s X (s.size - i) i K ≡ K
  unfolding sides
  sides_end h = let e : s.size - i ≡ 0 = omega arith in rw e

  pub sides_turn : {q d : ℕ} {z w : Interval} {M : List ℤ} → i < s.size → q ≡ first true i → d ≡ beside true s.size i
      → z ≡ zero → w ≡ exactly s.matrix (i * s.size + q) X q d 0 z → M ≡ put_sum K i w
      → sides true s X (s.size - i) i K ≡ sides true s X (s.size - (i + 1)) (i + 1) M
  unfolding sides side
  sides_turn h f g a b x = let e : s.size - i ≡ suc (s.size - (i + 1)) = omega arith in rw (x, b, a, f, g, e)

-- d products of row i from column q on lie within the n rows
pub row_end : (n i q d : ℕ) → i < n → q + d ≤ n → i * n + q + d ≤ n * n
row_end n i q d h g = omega (arith, rows_apart n i n h)

-- ---- the parts, in the sequence in which the code writes them
pub loaded_over_lem : (t : List ℤ) (s : System) (X : List ℤ) {from l : ℕ} {K L u v : List ℤ} → from ≡ sums_place true → l ≡ 4 * s.size → K ≡ take l (drop from t)
    → L ≡ sides true s X s.size 0 K → u ≡ with_system t s → v ≡ with_turn (with_sums (with_box u X) true L) false → v ≡ loaded_over t s X
unfolding loaded_over
loaded_over_lem t s X f g a b d e = rw (e, d, b, a, f, g)
