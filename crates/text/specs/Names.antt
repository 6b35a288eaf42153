-- Document 01, The cellar text: 'n names separated by ';', each of 1 to 16 bytes from A–Z, a–z, 0–9 and '-', all different.'
use Rattle.std.specs.Prelude.{Bool, true, false, not, ◌&&◌, ◌||◌, List, [], ◌∷◌, ℕ, eqb, leb, length}
use Prim.Native.Char.{code}
use Rattle.text.specs.Bytes.{between}
use Rattle.text.specs.Number.{is_digit}

-- 'from A–Z, a–z, 0–9 and '-''
unfoldable pub name_byte : ℕ → Bool
name_byte b = between "A" "Z" b || (between "a" "z" b || (is_digit b || eqb b (code "-")))

unfoldable pub all_bytes : List ℕ → Bool
all_bytes [] = true
all_bytes (b ∷ s) = name_byte b && all_bytes s

-- 'each of 1 to 16 bytes'
unfoldable pub is_name : List ℕ → Bool
is_name s = leb 1 (length s) && (leb (length s) 16 && all_bytes s)

unfoldable pub same : List ℕ → List ℕ → Bool
same [] [] = true
same [] (b ∷ t) = false
same (a ∷ s) [] = false
same (a ∷ s) (b ∷ t) = eqb a b && same s t

unfoldable pub among : List ℕ → List (List ℕ) → Bool
among s [] = false
among s (p ∷ ps) = same p s || among s ps

-- 'all different'
unfoldable pub each_name : List (List ℕ) → Bool
each_name [] = true
each_name (p ∷ ps) = is_name p && (not (among p ps) && each_name ps)

-- 'More than 32 names is a fault of line 1'
unfoldable pub are_names : List (List ℕ) → Bool
are_names ps = leb (length ps) 32 && each_name ps
