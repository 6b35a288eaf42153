-- What the structs of lent slices in the code ask of what they hold. No public contract cites it.
use Rattle.std.specs.Prelude.{◌≡◌, List, ℕ, ◌+◌, ◌*◌, ◌≤◌, ◌<◌, ℤ, length}
use Rattle.inputs.specs.Code.{Sound}

-- a matrix of n rows and columns, all of them intervals
pub record Square (n : ℕ) (m : List ℤ) : Type 0 where
  pub few : n ≤ 32
  pub long : length m ≡ 2 * (n * n)
  pub sound : Sound m

-- a right side of n components, all of them intervals
pub record Right (n : ℕ) (r : List ℤ) : Type 0 where
  pub few : n ≤ 32
  pub long : length r ≡ 2 * n
  pub sound : Sound r

-- how the code goes through a matrix: line i begins at i·a and goes on in steps of b. With a = n and b = 1 it is row i, with a = 1 and
-- b = n column i
pub record Lines (n a b : ℕ) : Type 0 where
  pub inside : (i k : ℕ) → i < n → k < n → i * a + k * b < n * n
