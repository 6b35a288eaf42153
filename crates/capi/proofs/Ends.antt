-- An interval made of two loose numbers, as the code passes it on.
use mathlib.Core.Path.{◌≡◌}
use lib.IntN.{ℤ}
use mir.Syntax.{w64}
use mir.Val.{SFits, to_z, of_z}
use mir.ValLaws.{to_z-of_z}
use Rattle.interval.specs.Interval.{ends}

pub read_ends : {l u : ℤ} → SFits w64 l → SFits w64 u → ends (to_z w64 (of_z w64 l)) (to_z w64 (of_z w64 u)) ≡ ends l u
read_ends {l} {u} fl fu = λ i. ends (to_z-of_z w64 l fl i) (to_z-of_z w64 u fu i)
