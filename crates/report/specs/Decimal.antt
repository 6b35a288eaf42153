-- Document 01, The cellar text: 'decimal, an optional '-' .. no needless leading zero and no '-0''. A number as bytes of text.
use Rattle.std.specs.Prelude.{cond, List, [], ◌∷◌, ◌++◌, ℕ, zero, suc, ◌+◌, ◌/◌, ◌%◌, ltb, ℤ, pos, negsuc}
use Prim.Native.Char.{code}

-- '0' and the digit
abbrev pub digit : ℕ → ℕ
digit d = code "0" + d

-- the digits of n, the most significant first, where so many places hold them
unfoldable pub digits_within : (places n : ℕ) → List ℕ
digits_within zero n = []
digits_within (suc d) n = cond (ltb n 10) (digit n ∷ []) (digits_within d (n / 10) ++ (digit (n % 10) ∷ []))

-- 20 places hold every number of 64 bits
unfoldable pub natural : ℕ → List ℕ
natural n = digits_within 20 n

-- with '-' before a negative number
unfoldable pub decimal : ℤ → List ℕ
decimal (pos n) = natural n
decimal (negsuc n) = code "-" ∷ natural (suc n)
