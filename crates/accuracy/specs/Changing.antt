-- Document 01, Sweeps: 'The sweeps that changed the box are never more than the sum of its start widths in units.'
use Rattle.std.specs.Prelude.{◌≡◌, cond, List, ℕ, ◌+◌, ℤ, pos, ◌≤ℤ◌}
use Rattle.outcome.specs.Run.{done}
use Rattle.inputs.specs.Place.{widths}
use Rattle.inputs.specs.System.{System}
use Rattle.sweep.specs.Pass.{differ}
use Rattle.sweep.specs.Call.{Log, stopped, settled, spent, swept}
use Rattle.sweep.specs.Calls.{Call, run}

-- how many sweeps of a call leave another box of n components than the one before
unfoldable pub changing : (n : ℕ) → Log → List ℤ → ℕ
changing n (stopped o) X = 0
changing n settled X = 0
changing n spent X = 0
changing n (swept Y l) X = cond (differ X Y n 0) 1 0 + changing n l Y

-- for every call; one that its tests refuse has no sweeps
abbrev pub FewChanges : Type 0
FewChanges = (s : System) (c : Call) (X : List ℤ) (l : Log) → run s c X ≡ done l → pos (changing s.size l X) ≤ℤ widths X s.size 0
