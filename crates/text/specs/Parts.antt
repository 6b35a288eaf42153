-- The parts of a list of bytes, between the bytes that separate them.
use Rattle.std.specs.Prelude.{cond, List, [], ◌∷◌, ℕ, zero, suc, ◌+◌, eqb, length}
use Prim.Native.Char.{code}

-- a byte more at the beginning of the first part
unfoldable pub longer : ℕ → List (List ℕ) → List (List ℕ)
longer x [] = (x ∷ []) ∷ []
longer x (p ∷ ps) = (x ∷ p) ∷ ps

-- the parts before, between and after the bytes b of a list: one more than there are b
unfoldable pub parts : (b : ℕ) → List ℕ → List (List ℕ)
parts b [] = [] ∷ []
parts b (x ∷ xs) = cond (eqb x b) ([] ∷ parts b xs) (longer x (parts b xs))

-- 'separated by ';''
abbrev pub fields : List ℕ → List (List ℕ)
fields line = parts (code ";") line

-- the part with the number k, from 0, and the place at which it starts: each part before it is followed by one byte b
unfoldable pub part : List (List ℕ) → (k : ℕ) → List ℕ
part [] k = []
part (p ∷ ps) zero = p
part (p ∷ ps) (suc k) = part ps k

unfoldable pub start_of : List (List ℕ) → (k : ℕ) → ℕ
start_of [] k = 0
start_of (p ∷ ps) zero = 0
start_of (p ∷ ps) (suc k) = length p + 1 + start_of ps k
