-- The records' tests and the square: all in one go, or, if a record fails, one test after the other for the outcome.
use mathlib.Core.Path.{◌≡◌, sym, subst, ◌∙◌}
use mathlib.Core.List.{List}
use Prim.Native.Nat.{ℕ}
use lib.Dec.{T}
use lib.IntN.{ℤ}
use Rattle.std.specs.Prelude.{Some, None, Ok}
use Rattle.inputs.specs.Tests.{Test}
use Rattle.transfers.specs.declared.Transfer.{Transfer}
use Rattle.transfers.specs.Code.{judgement, Filled, Entered}
use Rattle.transfers.proofs.Good.{good_passes, passes_good}

module _ {n : ℕ} {ts : List Transfer} {before after : List ℤ} where
  pub entered_at_once : Filled n ts before (Some tt) after → Entered n ts before (Ok tt) after
  entered_at_once f = record { said = sym (good_passes n ts f.0); matrix = λ _. f.1 }

  pub entered_after : {t : Test} → Filled n ts before None after → t ≡ judgement n ts → Entered n ts before t after
  entered_after f g =
      record { said = g; matrix = λ p. absurd (subst T (sym (passes_good n ts (sym g ∙ p)) ∙ f) tt) }
