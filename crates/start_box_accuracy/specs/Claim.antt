-- Document 02, A2: what a start box is worth, alone and for the list of document 01 that begins with it.
use Rattle.std.specs.Prelude.{List, ℕ, T, ℤ}
use Rattle.fraction.specs.Fraction.{Fraction}
use Rattle.inputs.specs.System.{System}
use Rattle.start_box.specs.Call.{start_box}
use Rattle.sweep.specs.Calls.{Call, changes, any_empty}
use Rattle.accuracy.specs.Solution.{Solution, InBox}
use Rattle.accuracy.specs.Claim.{Accepted, Bounded, Every}

-- 'It holds every solution of every balance within the bounds': where the call was lent some box, returned 0 and left X in it
abbrev pub StartBoxHolds : Type 0
StartBoxHolds = (s : System) (box X : List ℤ) → Accepted (start_box s) box X → (x : ℕ → Fraction) → Solution s x → InBox s.size X x

-- the accuracy rule for a list of sweep calls that begins with it: here it covers all solutions, as after an elimination
pub record Kept (s : System) (X : List ℤ) (calls : List Call) : Type 0 where
  pub bounded_at_start : (x : ℕ → Fraction) → Solution s x → Bounded s.size X x
  pub bounded_after : (x : ℕ → Fraction) → Solution s x → Every (λ c. Bounded s.size c.after x) (changes s calls X)
  pub empty_only : T (any_empty s calls X) → (x : ℕ → Fraction) → Solution s x → ⊥

abbrev pub StartBoxKept : Type 0
StartBoxKept = (s : System) (box X : List ℤ) → Accepted (start_box s) box X → (calls : List Call) → Kept s X calls
