-- Document 02, A4: 'Unless the new calculation is refused, every box lies inside the former one after as many sweeps, a settled box
-- standing for all later ones.' The former calculation rounds each product of a row singly, the new one each row once.
use Rattle.std.specs.Prelude.{◌≡◌, false, List, [], ◌∷◌, ℕ, zero, suc, ℤ}
use Rattle.outcome.specs.Run.{Run, refused, done}
use Rattle.inputs.specs.System.{System}
use Rattle.rows.specs.Sum.{RowSum, once, singly}
use Rattle.forward.specs.Pivot.{lowest_row}
use Rattle.elimination.specs.Call.{ended_A, ended_B, over_A, over_B}
use Rattle.sweep.specs.Call.{Log, stopped, settled, spent, swept}
use Rattle.sweep.specs.Calls.{Call, run_by, call_by, any_empty_by, any_empty}
use Rattle.accuracy.specs.Solution.{balance_of}
use Rattle.accuracy.specs.Claim.{Narrowed}

-- the box after j sweeps of a call, a settled box standing for all later ones; X is the one before them
unfoldable pub box_after : Log → (j : ℕ) → List ℤ → List ℤ
box_after (stopped o) j X = X
box_after settled j X = X
box_after spent j X = X
box_after (swept Y l) zero X = X
box_after (swept Y l) (suc j) X = box_after l j Y

-- a call that its tests refuse has no sweeps
abbrev pub box_of : Run Log → (j : ℕ) → List ℤ → List ℤ
box_of (refused o) j X = X
box_of (done l) j X = box_after l j X

-- in a list of calls, the box after j sweeps of the i-th call, from 0; after the last call the box that it left
unfoldable pub box_in : RowSum → System → List Call → (i j : ℕ) → List ℤ → List ℤ
box_in sum s [] i j X = X
box_in sum s (c ∷ cs) zero j X = box_of (run_by sum s c X) j X
box_in sum s (c ∷ cs) (suc i) j X = box_in sum s cs i j (call_by sum s c X).left

-- the former calculation from X, the new one from Y: where the new one says no 7, the former says none, and every box lies inside the
-- former one
pub record Inside (s : System) (X Y : List ℤ) : Type 0 where
  pub not_empty : (calls : List Call) → any_empty s calls Y ≡ false → any_empty_by (run_by singly s) calls X ≡ false
  pub boxes :
      (calls : List Call) → any_empty s calls Y ≡ false → (i j : ℕ) →
      Narrowed s.size (box_in singly s calls i j X) (box_in once s calls i j Y)

-- from one box that the caller lends, and from the boxes that both eliminations wrote, each its own
pub record InsideFormer : Type 0 where
  pub lent : (s : System) (X : List ℤ) → Inside s X X
  pub from_B :
      (s : System) (box : List ℤ) → (ended_B lowest_row singly s box).number ≡ 0 →
      Inside s (ended_B lowest_row singly s box).left (over_B s box).left
  pub from_A :
      (a : System) (box : List ℤ) → (ended_A lowest_row singly a box).number ≡ 0 →
      Inside (balance_of a) (ended_A lowest_row singly a box).left (over_A a box).left
