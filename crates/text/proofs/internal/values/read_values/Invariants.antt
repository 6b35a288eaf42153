use mathlib.Core.Path.{◌≡◌}
use Prim.Native.Nat.{◌+◌, ◌-◌, ◌*◌, ◌≤◌, ◌<◌}
use lib.ListN.{length, take, drop}
use Rattle.std.specs.Prelude.{Some}
use Rattle.text.specs.Parts.{fields}
use Rattle.text.specs.Number.{then, values}
use Rattle.text.proofs.internal.values.read_values.Given as goal

abbrev pub invariant-loop-i : goal.invariant-loop-i
invariant-loop-i l =
    (l.at ≤ length l.line) × (l.i < l.n) × (length l.t ≡ length l.initial.t)
    × (then (Some (take (2 * l.p) l.initial.t)) (values l.n (fields l.line)) ≡ then (Some (take (2 * (l.p + l.i)) l.t)) (values (l.n - l.i) (fields (drop l.at l.line))))
