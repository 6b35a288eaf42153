-- Document 01, The cellar text: what the program 'balance' prints. 'Every printed line ends with byte 10.'
use Rattle.std.specs.Prelude.{List, [], ◌∷◌, ◌++◌, ℕ, zero, suc, ◌+◌, ℤ}
use Prim.Native.Char.{code}
use Rattle.interval.specs.declared.Interval.{Interval}
use Rattle.inputs.specs.Place.{at}
use Rattle.text.specs.Bytes.{bytes}
use Rattle.report.specs.Decimal.{natural, decimal}

-- 'A value is lower ':' upper in units'
unfoldable pub bound : Interval → List ℕ
bound v = decimal v.lo ++ (code ":" ∷ decimal v.hi)

-- the bounds at positions p, p + 1, .. of a box, so many of them, each after ';'
unfoldable pub further : (left p : ℕ) → List ℤ → List ℕ
further zero p x = []
further (suc d) p x = code ";" ∷ (bound (at x p) ++ further d (p + 1) x)

-- 'the n bounds in the text's own form for values': those at positions p, p + 1, .., parted by ';'
unfoldable pub bounds : (left p : ℕ) → List ℤ → List ℕ
bounds zero p x = []
bounds (suc d) p x = bound (at x p) ++ further d (p + 1) x

-- 'then 'settled' or 'spent', a blank and the count'
unfoldable pub settled : List ℕ
settled = bytes "settled"

unfoldable pub spent : List ℕ
spent = bytes "spent"

unfoldable pub counted : (word : List ℕ) → (count : ℕ) → List ℕ
counted word count = word ++ (code " " ∷ (natural count ++ (10 ∷ [])))

-- 'prints the names line, a line of the n bounds' and the line above
unfoldable pub calculated : (names : List ℕ) → (n : ℕ) → (box : List ℤ) → (word : List ℕ) → (count : ℕ) → List ℕ
calculated names n x word count = names ++ (10 ∷ (bounds n 0 x ++ (10 ∷ counted word count)))

-- 'A refusal prints only 'refused', number, place, with single blanks'
unfoldable pub refusal : (number place : ℕ) → List ℕ
refusal number place = bytes "refused " ++ (natural number ++ (code " " ∷ (natural place ++ (10 ∷ []))))
