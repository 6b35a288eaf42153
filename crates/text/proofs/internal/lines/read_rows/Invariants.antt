use mathlib.Core.Path.{◌≡◌}
use Prim.Native.Nat.{◌+◌, ◌-◌, ◌*◌, ◌≤◌}
use lib.ListN.{length, take, drop}
use Rattle.text.specs.Parts.{parts}
use Rattle.text.specs.Text.{before, rows_from}
use Rattle.text.proofs.internal.lines.read_rows.Given as goal

abbrev pub invariant-loop-i : goal.invariant-loop-i
invariant-loop-i l =
    (l.at ≤ length l.text) × (l.i ≤ l.n + 1) × (length l.t ≡ 2112)
    × (rows_from l.n (l.n + 1) 2 (parts 10 (drop l.from l.text)) ≡ before (take (2 * (l.i * l.n)) l.t) (rows_from l.n (l.n + 1 - l.i) (l.i + 2) (parts 10 (drop l.at l.text))))
