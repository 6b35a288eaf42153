-- What the functions that print promise each other.
use Rattle.std.specs.Prelude.{List, ℕ}
use Rattle.outcome.specs.declared.Ending.{Ending}
use Rattle.outcome.specs.declared.Ending.TheVariants.{Done, Spent}
use Rattle.report.specs.Sheet.{settled, spent}

-- the word for how a calculation ended
abbrev pub word : Ending → List ℕ
word Done = settled
word Spent = spent
