-- The lower and the greater of two integers.
use Rattle.std.specs.Prelude.{ℤ}
use Rattle.std.specs.Int.{int_min, int_max}

unfoldable pub minimum : ℤ → ℤ → ℤ
minimum a b = int_min a b

unfoldable pub maximum : ℤ → ℤ → ℤ
maximum a b = int_max a b
