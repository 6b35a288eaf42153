-- Document 01, The cellar text: 'a line of the n bounds in the text's own form for values'. What is printed reads back as the same numbers.
use Rattle.std.specs.Prelude.{◌≡◌, true, List, ℕ, ◌*◌, ◌≤◌, ◌<◌, ℤ, nat_abs, length, Some}
use Rattle.outcome.specs.Run.{done}
use Rattle.inputs.specs.Place.{at}
use Rattle.text.specs.Parts.{parts, fields, part}
use Rattle.text.specs.Number.{number, values}
use Rattle.text.specs.Text.{Cellar, reading}
use Rattle.report.specs.Decimal.{decimal}
use Rattle.report.specs.Sheet.{bounds}
use Rattle.report.specs.Call.{solved, reached, printed}

-- '1 to 10 digits' hold it, as they do every number in the range
abbrev pub Short : ℤ → Type 0
Short z = nat_abs z ≤ 9_999_999_999

-- a printed number is a number of the text
abbrev pub NumberBack : Type 0
NumberBack = (z : ℤ) → Short z → number (decimal z) ≡ Some z

-- the printed bounds of a box are a line of n values of the text
abbrev pub LineBack : Type 0
LineBack =
    (n : ℕ) (x : List ℤ) → 1 ≤ n → length x ≡ 2 * n
    → ((p : ℕ) → p < n → Short (at x p).lo × Short (at x p).hi)
    → values n (fields (bounds n 0 x)) ≡ Some x

-- whatever the text, if its calculation reaches bounds: line 2 of what the program prints reads back as the very box reached
abbrev pub SheetBack : Type 0
SheetBack =
    (text : List ℕ) (c : Cellar) → reading text ≡ done c → reached (solved c.balance) ≡ true
    → values c.balance.size (fields (part (parts 10 (printed text)) 1)) ≡ Some (solved c.balance).left
