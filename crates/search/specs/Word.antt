-- What functions beneath the search promise each other; no public promise rests on these.
use Rattle.std.specs.Prelude.{cond, List, [], ◌∷◌, ℕ, zero, suc, ◌+◌, ◌*◌, eqb, get_or, take, drop}

-- bytes as a number, the first lowest
unfoldable pub packed : List ℕ → ℕ
packed [] = 0
packed (b ∷ s) = packed s * 256 + b

-- the d bytes of s from i on
unfoldable pub word_at : List ℕ → (i d : ℕ) → ℕ
word_at s i d = packed (take d (drop i s))

-- in its place, the top bit of each of them that is b
unfoldable pub marks_at : List ℕ → (i b d : ℕ) → ℕ
marks_at s i b zero = 0
marks_at s i b (suc d) = marks_at s (i + 1) b d * 256 + cond (eqb (get_or s i 0) b) 128 0
