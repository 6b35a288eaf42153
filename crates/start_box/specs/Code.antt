-- What the functions beneath the call promise each other. No public contract cites it.
use Rattle.std.specs.Prelude.{◌≡◌, List, ℕ, ◌+◌, ◌*◌, ℤ, Result, Ok, Err}
use Rattle.outcome.specs.declared.Refusal.{Refusal}
use Rattle.outcome.specs.Run.{Run, refused, done}
use Rattle.integer.specs.Total.{total}
use Rattle.interval.specs.declared.Interval.{Interval}
use Rattle.inputs.specs.Place.{at}
use Rattle.inputs.specs.System.{System, system}
use Rattle.start_box.specs.declared.internal.Balance.{Balance}
use Rattle.start_box.specs.declared.internal.reach.RowTotals.{RowTotals}
use Rattle.start_box.specs.declared.internal.sums.LineSums.{LineSums}
use Rattle.start_box.specs.declared.internal.widen.BoxAround.{BoxAround}
use Rattle.start_box.specs.Sums.{magnitude, row_sum}
use Rattle.start_box.specs.Reach.{coefficients, dividend}
use Rattle.start_box.specs.Call.{widened}

-- what the structs of lent slices stand for
abbrev pub system_of : Balance → System
system_of b = system b.n b.matrix.now b.right.now

-- the sum of the magnitudes of line i
unfoldable pub line_sum : (n : ℕ) (m : List ℤ) (a b i : ℕ) → ℤ
line_sum n m a b i = total (λ k. magnitude (at m (i * a + k * b))) n 0

abbrev pub sums_of : LineSums → ℕ → ℤ
sums_of s = line_sum s.n s.matrix.now s.stride s.step

abbrev pub components_of : BoxAround → ℕ → Interval
components_of x = widened x.right.now x.distance

-- what the code gets of a row in one loop
pub record Totalled (s : System) (i : ℕ) (t : RowTotals) : Type 0 where
  pub sum : t.sum ≡ row_sum (coefficients s) s.size i
  pub dividend : t.dividend ≡ dividend s i

-- the reach, as the definition has it
abbrev pub reach_of : Result ℤ Refusal → Run ℤ
reach_of (Ok r) = done r
reach_of (Err o) = refused o
