use mathlib.Core.Path.{◌≡◌}
use Prim.Native.Nat.{◌+◌, ◌*◌}
use Rattle.integer.specs.Total.{total}
use Rattle.inputs.specs.Place.{at}
use Rattle.start_box.specs.Sums.{magnitude}
use Rattle.start_box.proofs.internal.sums.LineSums.at.Given as goal

abbrev pub invariant-loop-k : goal.invariant-loop-k
invariant-loop-k v = (v.sum ≡ (total (λ l. magnitude (at v.self.matrix.now (v.i * v.self.stride + l * v.self.step))) v.k 0))
