-- Without a 5, the calculation that looks for a row is the one that does not: each pivot serves where it stands.
use mathlib.Core.Path.{◌≡◌, refl, ap}
use mathlib.Core.Logic.{◌≢◌}
use mathlib.Core.Bool.{Bool, true, false, cond}
use mathlib.Core.List.{List}
use Prim.Native.Nat.{ℕ, zero, suc, ◌+◌, ◌-◌, ◌<◌}
use native.Mathlib.Omega.{arith}
use lib.IntN.{ℤ, pos}
use lib.ListN.{length, set}
use Rattle.outcome.specs.declared.Refusal.TheVariants as refusal
use Rattle.outcome.specs.Table.{number_and_place}
use Rattle.outcome.specs.Run.{Run, refused, done, and_then, ended, written}
use Rattle.outcome.proofs.Run.{Refuses}
use Rattle.interval.specs.Interval.{contains_zero}
use Rattle.inputs.specs.Tests.{Test}
use Rattle.std.specs.Prelude.{Ok, Err}
use Rattle.inputs.specs.Place.{at, cell}
use Rattle.inputs.specs.Tests.{tested}
use Rattle.inputs.specs.System.{tests}
use Rattle.rows.specs.Sum.{RowSum}
use Rattle.forward.specs.Pivot.{lowest_row, in_place, swapped}
use Rattle.forward.specs.Forward.{Table, table, taking, rows, pivots, forward}
use Rattle.forward.specs.Formed.{formed_rows}
use Rattle.forward.proofs.Pivot.{stays}
use Rattle.elimination.specs.Back.{back}
use Rattle.elimination.specs.Call.{copied, box, none_taken, solved, run_A, run_B}
use Rattle.elimination.specs.Claim.{SameUnlessFive}

abbrev Other : {A : Type 0} → Run A → Type 0
Other r = Refuses (λ o. (number_and_place (Err o)).number ≢ 5) r

-- what goes on alike ends alike
alike : {A B : Type 0} (r : Run A) (f g : A → Run B) → ((a : A) → Other (g a) → f a ≡ g a) → Other (and_then r g) → and_then r f ≡ and_then r g
unfolding and_then
alike (refused o) f g h u = refl
alike (done a) f g h u = h a u

first_other : {A B : Type 0} (r : Run A) (g : A → Run B) → Other (and_then r g) → Other r
unfolding and_then
first_other (refused o) g u = record { where_refused = u.where_refused }
first_other (done a) g u = record { where_refused = tt }

-- ---- one step, and all
module _ (n k : ℕ) (s : Table) where
  apart : Other (taking in_place n k s) → contains_zero (at s.numbers (cell n k k)) ≡ false
  unfolding taking in_place and_then
  apart = go (contains_zero (at s.numbers (cell n k k)))
    where
      go : (z : Bool) → Other (and_then (cond z (refused (refusal.ContainsZero (k + 1))) (done k)) (λ i. done (table (swapped n k i s.numbers) (set s.taken k (pos i))))) → z ≡ false
      go true u = absurd (u.where_refused refl)
      go false u = refl

  taking_same : k < n → Other (taking in_place n k s) → taking lowest_row n k s ≡ taking in_place n k s
  unfolding taking in_place
  taking_same h u = rw (stays n k s.numbers h (apart u), apart u)

pivots_same : (n d k : ℕ) (s : Table) → k + d ≡ n → Other (pivots in_place n d k s) → pivots lowest_row n d k s ≡ pivots in_place n d k s
unfolding pivots
pivots_same n zero k s b u = refl
pivots_same n (suc d) k s b u =
    rw (taking_same n k s (omega arith) (first_other (taking in_place n k s) _ u))
    (alike (taking in_place n k s) _ _
    (λ s₁ v. alike (rows n k (at s₁.numbers (cell n k k)) (n - (k + 1)) (k + 1) s₁.numbers) _ _ (λ t w. pivots_same n d (k + 1) (table t s₁.taken) (omega arith) w) v)
    u)

-- ---- the whole calculation
solved_same : (sum : RowSum) (n : ℕ) (t : List ℤ) → Other (solved in_place sum n t) → solved lowest_row sum n t ≡ solved in_place sum n t
unfolding solved forward
solved_same sum n t u =
    ap (λ r. and_then r (λ (s : Table). and_then (back sum n n s.numbers) (λ t₁. done (box n t₁))))
    (pivots_same n n 0 (table t none_taken) (omega arith) (first_other (pivots in_place n n 0 (table t none_taken)) _ u))

tested_same : (t : Test) (f g : Run (List ℤ)) → (Other g → f ≡ g) → Other (tested t g) → tested t f ≡ tested t g
unfolding tested
tested_same (Ok _) f g h u = h u
tested_same (Err o) f g h u = refl

-- a call whose number is not 5
other_call : (r : Run (List ℤ)) (x : List ℤ) → (ended written x r).number ≢ 5 → Other r
unfolding ended
other_call (refused o) x h = record { where_refused = h }
other_call (done t) x h = record { where_refused = tt }

pub same_unless_five : SameUnlessFive
unfolding run_A run_B
same_unless_five =
    record {
      from_A = λ sum s x h.
          ap (ended written x)
          (tested_same (tests s (length x)) _ _ (solved_same sum s.size (copied s)) (other_call (run_A in_place sum s (length x)) x h));
      from_B = λ sum s x h.
          ap (ended written x)
          (tested_same (tests s (length x)) _ _
          (alike (formed_rows s.size s.size 0 (copied s)) _ _ (λ t u. solved_same sum s.size t u))
          (other_call (run_B in_place sum s (length x)) x h));
    }
