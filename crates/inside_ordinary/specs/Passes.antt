-- Document 02, A5: 'unless refused, the box after each pass lies inside the ordinary one from the same start after as many sweeps, settled
-- boxes standing as in A4'.
use Rattle.std.specs.Prelude.{◌≡◌, ◌≢◌, List, ℕ, ℤ}
use Rattle.inputs.specs.System.{System}
use Rattle.sweep.specs.Calls.{sweep_call, symmetric_call, run, call}
use Rattle.accuracy.specs.Claim.{Narrowed}
use Rattle.inside_former.specs.Sweeps.{box_of}

-- the ordinary call and the one there and back, with the same box lent and as many sweeps allowed
pub record Inside (s : System) (allowed : ℕ) (X : List ℤ) : Type 0 where
  -- after j passes the box lies inside the one after j sweeps
  pub boxes :
      (call s (symmetric_call allowed) X).number ≢ 7 → (j : ℕ) →
      Narrowed s.size (box_of (run s (sweep_call allowed) X) j X) (box_of (run s (symmetric_call allowed) X) j X)
  -- and so does what the call leaves
  pub left :
      (call s (symmetric_call allowed) X).number ≢ 7 →
      Narrowed s.size (call s (sweep_call allowed) X).left (call s (symmetric_call allowed) X).left
  -- the passes are refused where the sweeps are
  pub empty : (call s (sweep_call allowed) X).number ≡ 7 → (call s (symmetric_call allowed) X).number ≡ 7

abbrev pub InsideOrdinary : Type 0
InsideOrdinary = (s : System) (allowed : ℕ) (X : List ℤ) → Inside s allowed X

-- where both settle, each within what it is allowed, they leave the same box
abbrev pub SameSettled : Type 0
SameSettled =
    (s : System) (k j : ℕ) (X : List ℤ) → (call s (sweep_call k) X).number ≡ 0 → (call s (symmetric_call j) X).number ≡ 0 →
    (call s (sweep_call k) X).left ≡ (call s (symmetric_call j) X).left
