-- Sums of integers, each given by its index.
use Rattle.std.specs.Prelude.{ℕ, zero, suc, ◌+◌, ℤ, pos, ◌+ℤ◌}

-- f(j) + f(j + 1) + .., d terms
unfoldable pub total : (ℕ → ℤ) → (d j : ℕ) → ℤ
total f zero j = pos 0
total f (suc d) j = f j +ℤ total f d (j + 1)
