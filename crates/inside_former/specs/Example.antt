-- Document 02, A4: '7 can be [new], for a caller's own start box'. With B = (0.5 0.5; 0 1), b = 0 and the start box 3, 1 in units, each
-- product of row 1 was rounded to a unit, and 3 lay within their sum; the row itself is 2.
use Rattle.std.specs.Prelude.{◌≡◌, Ok, Err, List, [], ◌∷◌, ℤ, pos}
use Rattle.outcome.specs.declared.Ending.TheVariants.{Done}
use Rattle.outcome.specs.declared.Refusal.TheVariants as refusal
use Rattle.outcome.specs.Run.{returned}
use Rattle.inputs.specs.System.{System, system}
use Rattle.rows.specs.Sum.{singly}
use Rattle.sweep.specs.Calls.{sweep_call, call_by, call}

abbrev pub halves : System
halves =
    system 2 (pos 500_000 ∷ pos 500_000 ∷ pos 500_000 ∷ pos 500_000 ∷ pos 0 ∷ pos 0 ∷ pos 1_000_000 ∷ pos 1_000_000 ∷ [])
    (pos 0 ∷ pos 0 ∷ pos 0 ∷ pos 0 ∷ [])

abbrev pub start : List ℤ
start = pos 3 ∷ pos 3 ∷ pos 1 ∷ pos 1 ∷ []

pub record SevenCanBeNew : Type 0 where
  pub before : call_by singly halves (sweep_call 1) start ≡ returned (Ok Done) 1 start
  pub now : call halves (sweep_call 1) start ≡ returned (Err (refusal.Empty 1)) 0 start
