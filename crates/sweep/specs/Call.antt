-- Document 01, Sweeps: a call with its number of sweeps allowed, whatever one pass over the box is.
use Rattle.std.specs.Prelude.{cond, ◌&&◌, List, [], ◌∷◌, ℕ, zero, suc, leb, ℤ, Ok, Err, length}
use Rattle.outcome.specs.declared.Ending.TheVariants.{Done, Spent}
use Rattle.outcome.specs.declared.Refusal.{Refusal}
use Rattle.outcome.specs.declared.Refusal.TheVariants as refusal
use Rattle.outcome.specs.Table.{Outcome}
use Rattle.outcome.specs.Run.{Run, refused, done, Returned, returned}
use Rattle.inputs.specs.Tests.{Test}
use Rattle.inputs.specs.Tests.{both, need, sizes, all_proper}
use Rattle.inputs.specs.System.{System, slices, parts}
use Rattle.sweep.specs.Pass.{differ}

-- what the sweeps of a call do, in sequence: each whole one with the box that it leaves, and how they end
pub data Log : Type 0 where
  stopped : Refusal → Log
  settled : Log
  spent : Log
  swept : List ℤ → Log → Log

-- 'settled after a sweep that changed no end' of the n components of X
abbrev pub after : (n : ℕ) (X : List ℤ) → Run (List ℤ) → (List ℤ → Log) → Log
after n X (refused o) f = stopped o
after n X (done Y) f = swept Y (cond (differ X Y n 0) (f Y) settled)

-- 'or spent if the last allowed sweep still changed one'
unfoldable pub sweeps : (n : ℕ) (pass : List ℤ → Run (List ℤ)) (allowed : ℕ) → List ℤ → Log
sweeps n p zero X = spent
sweeps n p (suc d) X = after n X (p X) (λ Y. sweeps n p d Y)

-- 'The count returned is the number of whole sweeps done, the unchanged last one included'
abbrev pub count : Log → ℕ
count (stopped o) = 0
count settled = 0
count spent = 0
count (swept Y l) = suc (count l)

-- 0 settled, 9 spent, or the refusal of a pass
abbrev pub ending : Log → Outcome
ending (stopped o) = Err o
ending settled = Ok Done
ending spent = Ok Spent
ending (swept Y l) = ending l

-- the box at the end, from the one that was lent and the one before these sweeps: a refusal leaves the lent one
abbrev pub last : Log → (lent before : List ℤ) → List ℤ
last (stopped o) lent X = lent
last settled lent X = X
last spent lent X = X
last (swept Y l) lent X = last l lent Y

-- what the sweeps return, and what they leave in the lent box
abbrev pub concluded : (lent : List ℤ) → Log → Returned (List ℤ)
concluded X l = returned (ending l) (count l) (last l X X)

-- 4: 'sweeps allowed are 0 or above 10,000'
unfoldable pub allowance : ℕ → Test
allowance k = need (leb 1 k && leb k 10_000) refusal.Allowed

-- 'Tests run in the sequence 8, 1, 2, 4, 3'
unfoldable pub tests : System → (allowed : ℕ) → List ℤ → Test
tests s k X =
    both (sizes s.size (slices s (length X)))
    (both (allowance k) (all_proper 0 (parts s (record { numbers = X; count = s.size } ∷ []))))
