use mathlib.Core.Path.{sym}
use Prim.Native.Nat.{ℕ}
use lib.ListN.{length-replicate}
use Rattle.vectors.proofs.main.Goals as goal

-- by a lemma whose arguments are all written: a search goes through the whole array, for which the stack is too small
pub slice_bounds-read_cases-end : goal.slice_bounds-read_cases-end
slice_bounds-read_cases-end c = sym (length-replicate {0} {A = ℕ} 1048576 0)
