-- What the contracts of internal functions speak of, here and in the crates above. No public contract cites it.
use Rattle.std.specs.Prelude.{◌≡◌, true, List, ℕ, ℤ, Result}
use Rattle.outcome.specs.declared.Refusal.{Refusal}
use Rattle.outcome.specs.Run.{Run, written, ended, answered}
use Rattle.interval.specs.Interval.{acceptable}
use Rattle.inputs.specs.Place.{at}

-- every interval of the list is one; past the end they are nought
pub record Sound (t : List ℤ) : Type 0 where
  pub each : (p : ℕ) → acceptable (at t p) ≡ true

-- a whole calculation without a count: what it answers, and the lent box
pub record Ended (run : Run (List ℤ)) (r : Result (Unit {0}) Refusal) (before after : List ℤ) : Type 0 where
  pub is : answered r after ≡ ended written before run
