-- An outcome and its count in the flat form.
use mathlib.Core.Path.{◌≡◌, ap}
use Prim.Native.Nat.{ℕ}
use Rattle.outcome.specs.Table.{Outcome}
use Rattle.outcome.specs.Run.{Returned, returned}
use Rattle.capi.specs.declared.systems.KifwalebOutcome.{KifwalebOutcome}
use Rattle.capi.specs.Flat.{call_of}

-- what the slice holds is the caller's
pub call_left : {A : Type 0} (r : KifwalebOutcome) (o : Outcome) {c d : ℕ} (a : A) → call_of r d ≡ returned o c d → call_of r a ≡ returned o c a
call_left r o a e = ap (λ (s : Returned ℕ). record { number = s.number; place = s.place; count = s.count; left = a }) e
