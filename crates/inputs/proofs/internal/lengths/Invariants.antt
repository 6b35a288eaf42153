use mathlib.Core.Path.{◌≡◌}
use Rattle.std.proofs.Common.{drop}
use Rattle.inputs.specs.Tests.{lengths}
use Rattle.inputs.proofs.internal.lengths.Given as goal

abbrev pub invariant-loop-s : goal.invariant-loop-s
invariant-loop-s l = lengths (drop l.s-index l.slices) ≡ lengths l.slices
