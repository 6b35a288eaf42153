-- Document 01, The list in demand 3: what a solution of a balance is, and when it lies in a box.
use Rattle.std.specs.Prelude.{List, ℕ, ◌*◌, ◌/◌, ◌%◌, ◌<◌, ℤ}
use Rattle.interval.specs.Interval.{exact_difference}
use Rattle.fraction.specs.Fraction.{Fraction, Inside, Same}
use Rattle.inputs.specs.Place.{at, cell, numbers}
use Rattle.inputs.specs.System.{System}
use Rattle.rows.specs.Exact.{exact_row}
use Rattle.forward.specs.Formed.{identity}

-- 'some choice of exact fractions inside the bounds of B and b', for a system that holds B and b
pub record Choice (s : System) : Type 0 where
  pub coefficient : (i j : ℕ) → Fraction
  pub constant : (i : ℕ) → Fraction
  pub coefficient_in : (i j : ℕ) → i < s.size → j < s.size → Inside (at s.matrix (cell s.size i j)) (coefficient i j)
  pub constant_in : (i : ℕ) → i < s.size → Inside (at s.right i) (constant i)

-- 'n exact fractions as weights that meet x = B·x + b', for that choice: row i says that x(i) is b(i) and the sum of all B(i,j)·x(j)
pub record Meets (s : System) (c : Choice s) (x : ℕ → Fraction) : Type 0 where
  pub row : (i : ℕ) → i < s.size → Same (x i) (exact_row (c.coefficient i) x s.size 0 (c.constant i))

-- 'A solution is n exact fractions as weights that meet x = B·x + b for some choice'
pub record Solution (s : System) (x : ℕ → Fraction) : Type 0 where
  pub choice : Choice s
  pub meets : Meets s choice x

-- 'A solution lies in a box if each weight lies inside its vat's interval'
pub record InBox (n : ℕ) (X : List ℤ) (x : ℕ → Fraction) : Type 0 where
  pub each : (j : ℕ) → j < n → Inside (at X j) (x j)

-- 'Where A and f were lent, B is I − A and b is f'. The interval at position p stands in row p / n and column p % n
unfoldable pub balance_of : System → System
balance_of s =
    record {
      size = s.size;
      matrix = numbers (λ p. exact_difference (identity (p / s.size) (p % s.size)) (at s.matrix p)) (s.size * s.size) 0;
      right = s.right;
    }
