-- Document 01, The cellar text: 'A value is lower ':' upper in units, decimal, an optional '-', 1 to 10 digits,
-- no needless leading zero and no '-0'.' What is not so described is `None`.
use Rattle.std.specs.Prelude.{Bool, cond, not, ◌&&◌, ◌||◌, List, [], ◌∷◌, ◌++◌, ℕ, zero, suc, ◌+◌, ◌-◌, ◌*◌, eqb, leb, ℤ, pos, negsuc, length, get_or, Option, Some, None, option_and_then}
use Prim.Native.Char.{code}
use Rattle.text.specs.Bytes.{between}
use Rattle.text.specs.Parts.{parts}

unfoldable pub is_digit : ℕ → Bool
is_digit b = between "0" "9" b

-- v and then these digits
unfoldable pub digits : List ℕ → (v : ℕ) → Option ℕ
digits [] v = Some v
digits (b ∷ s) v = cond (is_digit b) (digits s (v * 10 + (b - code "0"))) None

-- 'no needless leading zero': it stands alone
unfoldable pub plain : List ℕ → Bool
plain s = not (eqb (get_or s 0 0) (code "0")) || eqb (length s) 1

-- '1 to 10 digits'
unfoldable pub magnitude : List ℕ → Option ℕ
magnitude s = cond (leb 1 (length s) && (leb (length s) 10 && plain s)) (digits s 0) None

-- 'no '-0''
unfoldable pub below : ℕ → Option ℤ
below zero = None
below (suc m) = Some (negsuc m)

-- 'an optional '-''
unfoldable pub number : List ℕ → Option ℤ
number [] = None
number (b ∷ s) = cond (eqb b (code "-")) (option_and_then below (magnitude s)) (option_and_then (λ m. Some (pos m)) (magnitude (b ∷ s)))

-- the two ends of a value
unfoldable pub both_ends : List (List ℕ) → Option (List ℤ)
both_ends [] = None
both_ends (l ∷ []) = None
both_ends (l ∷ (u ∷ [])) = option_and_then (λ lo. option_and_then (λ hi. Some (lo ∷ hi ∷ [])) (number u)) (number l)
both_ends (l ∷ (u ∷ (p ∷ ps))) = None

-- 'lower ':' upper'
unfoldable pub value : List ℕ → Option (List ℤ)
value f = both_ends (parts (code ":") f)

-- these numbers, and then those
unfoldable pub then : Option (List ℤ) → Option (List ℤ) → Option (List ℤ)
then a b = option_and_then (λ xs. option_and_then (λ ys. Some (xs ++ ys)) b) a

-- 'n values', of the fields of a line
unfoldable pub values : (n : ℕ) → List (List ℕ) → Option (List ℤ)
values zero [] = Some []
values zero (f ∷ fs) = None
values (suc d) [] = None
values (suc d) (f ∷ fs) = then (value f) (values d fs)
