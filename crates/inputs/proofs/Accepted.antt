-- A call that returns 0 has gone to its end: nothing in its tests or in its calculation stops it with that number.
use mathlib.Core.Path.{◌≡◌, refl, sym, ap}
use mathlib.Core.List.{List}
use native.Mathlib.Omega.{arith}
use lib.IntN.{ℤ}
use Rattle.outcome.specs.declared.Refusal.{Refusal}
use Rattle.outcome.specs.declared.Refusal.TheVariants.{Size, Length, Allowed, Ends, ContainsZero, OutOfRange, Empty, Text, Sums, NotDue, NoComponent, OutOfMatrix, OutOfOrder}
use Rattle.std.specs.Prelude.{Ok, Err}
use Rattle.outcome.specs.Table.{number_and_place}
use Rattle.outcome.specs.Run.{Run, refused, done, written, ended}
use Rattle.outcome.proofs.Run.{never}
use Rattle.inputs.specs.Tests.{Test}
use Rattle.std.specs.Prelude.{Ok, Err}
use Rattle.inputs.specs.Tests.{tested}

-- ---- the numbers of a refusal: neither 0 nor 9
pub refusal_number : (o : Refusal) → ((number_and_place (Err o)).number ≡ 0 → ⊥) × ((number_and_place (Err o)).number ≡ 9 → ⊥)
refusal_number Size = (omega arith, omega arith)
refusal_number (Length p) = (omega arith, omega arith)
refusal_number Allowed = (omega arith, omega arith)
refusal_number (Ends p) = (omega arith, omega arith)
refusal_number (ContainsZero p) = (omega arith, omega arith)
refusal_number (OutOfRange p) = (omega arith, omega arith)
refusal_number (Empty p) = (omega arith, omega arith)
refusal_number (Text p) = (omega arith, omega arith)
refusal_number Sums = (omega arith, omega arith)
refusal_number NotDue = (omega arith, omega arith)
refusal_number NoComponent = (omega arith, omega arith)
refusal_number (OutOfMatrix p) = (omega arith, omega arith)
refusal_number (OutOfOrder p) = (omega arith, omega arith)

-- ---- a call that returned 0, and the box that it left
pub to_end : (r : Run (List ℤ)) (lent : List ℤ) {x : List ℤ} → (ended written lent r).number ≡ 0 → x ≡ (ended written lent r).left → r ≡ done x
unfolding ended
to_end (refused o) lent e f = absurd ((refusal_number o).0 e)
to_end (done t) lent e f = ap done (sym f)

pub not_spent : (r : Run (List ℤ)) (lent : List ℤ) → (ended written lent r).number ≡ 9 → ⊥
unfolding ended
not_spent (refused o) lent e = (refusal_number o).1 e
not_spent (done t) lent e = omega (arith, e)

-- ---- and passed its tests
pub tested_done : (t : Test) (r : Run (List ℤ)) (x : List ℤ) → tested t r ≡ done x → (t ≡ Ok tt) × (r ≡ done x)
unfolding tested
tested_done (Ok _) r x e = (refl, e)
tested_done (Err o) r x e = never e
