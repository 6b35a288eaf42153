-- The working copy has room for the cells.
use mathlib.Core.List.{List}
use Prim.Native.Nat.{ℕ, ◌+◌, ◌*◌, ◌<◌}
use native.Mathlib.Omega.{arith}
use lib.IntN.{ℤ}
use lib.ListN.{length}
use Rattle.inputs.proofs.Place.{cell_before}
use Rattle.inputs.specs.Place.{cell}
use Rattle.forward.specs.Code.{Working}

-- the working copy has room for each cell
pub cell_room : (n i j : ℕ) {t : List ℤ} → Working n t → i < n → j < n → 2 * cell n i j + 1 < length t
cell_room n i j w h k = omega (arith, cell_before n i j h k, w.room)
