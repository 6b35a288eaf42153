use mathlib.Core.Path.{◌≡◌}
use Rattle.integer.specs.Total.{total}
use Rattle.start_box.specs.Code.{system_of}
use Rattle.start_box.specs.Reach.{dividend}
use Rattle.start_box.proofs.internal.Balance.all_dividends.Given as goal

abbrev pub invariant-loop-i : goal.invariant-loop-i
invariant-loop-i l = (l.sum ≡ (total (dividend (system_of l.self)) l.i 0))
