-- Bytes as the characters that they stand for.
use Rattle.std.specs.Prelude.{Bool, ◌&&◌, List, ℕ, leb}
use mathlib.Core.List as list
use Prim.Native.Char.{Char, code}
use Prim.Native.String.{String, [], ◌∷◌}

unfoldable pub bytes : String → List ℕ
bytes [] = list.[]
bytes (c ∷ s) = list.◌∷◌ (code c) (bytes s)

-- 'A–Z': a byte from one character to another
abbrev pub between : (first last : Char) → ℕ → Bool
between f l b = leb (code f) b && leb b (code l)
