-- Document 01, The list in demand 3: 'sweep calls on one lent box, all with the same n, B and b, each with any number of sweeps allowed'.
use Rattle.std.specs.Prelude.{Bool, false, ◌||◌, List, [], ◌∷◌, ◌++◌, ℕ, eqb, ℤ}
use Rattle.outcome.specs.Run.{Run, refused, done, Returned, ended}
use Rattle.inputs.specs.Tests.{tested}
use Rattle.inputs.specs.System.{System}
use Rattle.rows.specs.Sum.{RowSum, once}
use Rattle.sweep.specs.Pass.{sweep, symmetric}
use Rattle.sweep.specs.Call.{Log, stopped, settled, spent, swept, sweeps, tests, concluded}

-- a call of the list, with its number of sweeps allowed; 'the accuracy rule's list may hold these calls too' (document 02, A5): those
-- that sweep there and back, of which a pass is 'counted as one sweep'
pub data Call : Type 0 where
  sweep_call : (allowed : ℕ) → Call
  symmetric_call : (allowed : ℕ) → Call

-- whatever a pass is: its tests refuse the call, or it passes over the box. 'Start box, outcomes and limit are the ordinary call's'
abbrev pub run_over : (pass : List ℤ → Run (List ℤ)) → System → (allowed : ℕ) → List ℤ → Run Log
run_over pass s k X = tested (tests s k X) (done (sweeps s.size pass k X))

-- with the row sum that is given
unfoldable pub run_by : RowSum → System → Call → List ℤ → Run Log
run_by sum s (sweep_call k) X = run_over (sweep sum s) s k X
run_by sum s (symmetric_call k) X = run_over (symmetric sum s) s k X

-- what a call returns, and what it leaves in the lent box, whatever its run is
unfoldable pub returned_by : (Call → List ℤ → Run Log) → Call → List ℤ → Returned (List ℤ)
returned_by run c X = ended (concluded X) X (run c X)

abbrev pub call_by : RowSum → System → Call → List ℤ → Returned (List ℤ)
call_by sum s = returned_by (run_by sum s)

-- a box before and after a whole sweep, or before and after a call
pub record Change : Type 0 where
  pub before : List ℤ
  pub after : List ℤ

-- 'Its sweeps are the whole ones of every call, those before a 7 too'
abbrev pub sweep_changes : Log → List ℤ → List Change
sweep_changes (stopped o) X = []
sweep_changes settled X = []
sweep_changes spent X = []
sweep_changes (swept Y l) X = record { before = X; after = Y } ∷ sweep_changes l Y

abbrev pub sweeps_of : Run Log → List ℤ → List Change
sweeps_of (refused o) X = []
sweeps_of (done l) X = sweep_changes l X

-- 'Each call gets the box as the one before left it, after a refusal unchanged, and the list goes on'
unfoldable pub changes_by : (Call → List ℤ → Run Log) → List Call → List ℤ → List Change
changes_by run [] X = []
changes_by run (c ∷ cs) X =
    sweeps_of (run c X) X ++ (record { before = X; after = (returned_by run c X).left } ∷ changes_by run cs (returned_by run c X).left)

-- ''Empty' is 7': a list with a call that returns it
unfoldable pub any_empty_by : (Call → List ℤ → Run Log) → List Call → List ℤ → Bool
any_empty_by run [] X = false
any_empty_by run (c ∷ cs) X = eqb (returned_by run c X).number 7 || any_empty_by run cs (returned_by run c X).left

-- the calls as they are: each row is rounded once
abbrev pub run : System → Call → List ℤ → Run Log
run = run_by once

abbrev pub call : System → Call → List ℤ → Returned (List ℤ)
call = call_by once

abbrev pub changes : System → List Call → List ℤ → List Change
changes s = changes_by (run s)

abbrev pub any_empty : System → List Call → List ℤ → Bool
any_empty s = any_empty_by (run s)
