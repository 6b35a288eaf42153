-- Document 02, A6: what holds of 'states that the operations made from the empty one'.
use Rattle.std.specs.Prelude.{◌≡◌, ◌≢◌, true, false, not, List, [], ◌∷◌, ◌++◌, ℕ, zero, suc, ◌-◌, ◌<◌, eqb, ℤ, length, Ok}
use Rattle.outcome.specs.Run.{Run, done, and_then}
use Rattle.inputs.specs.Tests.{tested}
use Rattle.inputs.specs.System.{System}
use Rattle.fraction.specs.Fraction.{Fraction, Inside}
use Rattle.rows.specs.Sum.{once}
use Rattle.kept_sums.specs.Kept.{sum_at}
use Rattle.sweep.specs.Pass.{sweep, symmetric}
use Rattle.sweep.specs.Call.{tests}
use Rattle.accuracy.specs.Solution.{Solution, InBox}
use Rattle.accuracy.specs.Claim.{Bounded, Narrowed}
use Rattle.half_rows.specs.Rows.{side}
use Rattle.half_rows.specs.State.{state_length, empty, size_of, turn_of, box_of, system_of, sums_of, due}
use Rattle.half_rows.specs.Operations.{Operation, load, half_pass, narrowing, run, operate, after}
use Rattle.half_rows_afresh.specs.Afresh.{held_in, afresh}

abbrev pub box_in : List ℤ → List ℤ
box_in t = box_of t (size_of t)

-- 'After each accepted operation every kept sum that the half pass now due reads equals the one worked out afresh': the way up reads the
-- sums right of the diagonal, the way back those left of it
abbrev pub Fresh : List ℤ → Type 0
Fresh t =
    let b = eqb (turn_of t) (due true) in
    (i : ℕ) → i < size_of t
    → sum_at (sums_of (not b) t (size_of t)) i ≡ side (not b) (system_of t (size_of t)) (box_in t) i

abbrev pub SumsFresh : Type 0
SumsFresh = (os : List Operation) → Fresh (after os empty)

-- every operation on a state so reached does, to what the state stands for, what it would do if nothing were kept, and is refused where
-- that is refused and with the same outcome. So such a state passes the state's own tests: 19 has no other cause
abbrev pub AsAfresh : Type 0
AsAfresh =
    (os : List Operation) (o : Operation)
    → and_then (run o (after os empty)) (λ t. done (held_in t)) ≡ afresh o (held_in (after os empty))

-- ---- 'From a load without a narrowing, the boxes equal those of A5'
-- operations until one is refused
unfoldable pub run_all : List Operation → (t : List ℤ) → Run (List ℤ)
run_all [] t = done t
run_all (o ∷ os) t = and_then (run o t) (λ u. run_all os u)

-- so many times up and down; A5's pass so many times
unfoldable pub halves : ℕ → List Operation
halves zero = []
halves (suc k) = half_pass false ∷ half_pass true ∷ halves k

unfoldable pub passes : System → ℕ → (X : List ℤ) → Run (List ℤ)
passes s zero X = done X
passes s (suc k) X = and_then (symmetric once s X) (λ Y. passes s k Y)

-- from a load into any state, after every half pass, the last one a way back or a way there: the same box, or the same refusal
pub record ThereAndBack : Type 0 where
  pub back :
      (s : System) (X t : List ℤ) (k : ℕ) → length t ≡ state_length
      → and_then (run_all (load s X ∷ halves k) t) (λ u. done (box_in u)) ≡ tested (tests s 1 X) (passes s k X)
  pub there :
      (s : System) (X t : List ℤ) (k : ℕ) → length t ≡ state_length
      → and_then (run_all (load s X ∷ halves k ++ (half_pass false ∷ [])) t) (λ u. done (box_in u)) ≡
      tested (tests s 1 X) (and_then (passes s k X) (λ Y. sweep once s Y))

-- ---- demand 3: no true weight is lost
-- an operation that loads nothing; and a weighed interval holds the weight
abbrev pub Weighed : (ℕ → Fraction) → Operation → Type 0
Weighed x (load s X) = ⊥
Weighed x (half_pass back) = Unit {0}
Weighed x (narrowing vat w) = Inside w (x (vat - 1))

abbrev pub AllWeighed : (ℕ → Fraction) → List Operation → Type 0
AllWeighed x [] = Unit {0}
AllWeighed x (o ∷ os) = Weighed x o × AllWeighed x os

-- from an accepted load, with narrowings that hold the solution's weights: every box holds the solution, any figure inside the bounds is
-- off by at most the width, and 7 does not come
pub record Kept (s : System) (X : List ℤ) (x : ℕ → Fraction) (os : List Operation) (t : List ℤ) : Type 0 where
  pub bounded : Bounded s.size (box_in (after (load s X ∷ os) t)) x
  pub not_empty : (o : Operation) → Weighed x o → (operate o (after (load s X ∷ os) t)).number ≢ 7

abbrev pub Tightens : Operation → Type 0
Tightens (load s X) = ⊥
Tightens (half_pass back) = Unit {0}
Tightens (narrowing vat w) = Unit {0}

pub record NoWeightLost : Type 0 where
  pub kept :
      (s : System) (X t : List ℤ) → length t ≡ state_length → tests s 1 X ≡ Ok tt
      → (x : ℕ → Fraction) → Solution s x → InBox s.size X x
      → (os : List Operation) → AllWeighed x os → Kept s X x os t
  -- no operation but a load widens a bound
  pub never_wider :
      (os : List Operation) (o : Operation) → Tightens o
      → Narrowed (size_of (after os empty)) (box_in (after os empty)) (box_in (operate o (after os empty)).left)
