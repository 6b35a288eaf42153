-- The accuracy rule for the bounds that the program 'balance' prints.
use Rattle.std.specs.Prelude.{◌≡◌, true, List, ℕ, ℤ, Some}
use Rattle.outcome.specs.Run.{done}
use Rattle.fraction.specs.Fraction.{Fraction}
use Rattle.text.specs.Parts.{parts, fields, part}
use Rattle.text.specs.Number.{values}
use Rattle.text.specs.Text.{Cellar, reading}
use Rattle.report.specs.Call.{solved, reached, printed}
use Rattle.accuracy.specs.Solution.{Solution}
use Rattle.accuracy.specs.Claim.{Bounded}

-- for every text of which the calculation reaches bounds: whatever box line 2 of what is printed reads as, every solution of the
-- balance lies
-- in it, and any figure inside the bounds of a vat is off from the solution's weight by at most their width
abbrev pub SheetCovered : Type 0
SheetCovered =
    (text : List ℕ) (c : Cellar) → reading text ≡ done c → reached (solved c.balance) ≡ true
    → (box : List ℤ) → values c.balance.size (fields (part (parts 10 (printed text)) 1)) ≡ Some box
    → (x : ℕ → Fraction) → Solution c.balance x → Bounded c.balance.size box x
