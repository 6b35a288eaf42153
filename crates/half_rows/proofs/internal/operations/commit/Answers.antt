use mathlib.Core.Path.{ap, ap₂, ◌∙◌}
use mathlib.Core.Bool.{Bool}
use mathlib.Core.List.{List}
use lib.IntN.{ℤ, pos}
use lib.ListN.{set}
use Rattle.half_rows.specs.State.{due}
use Rattle.half_rows.proofs.State.{number_is}
use Rattle.half_rows.proofs.internal.operations.commit.Goals as goal

pub returns : goal.returns
returns c =
    ap₂ (λ (t : List ℤ) (z : ℤ). set t 1 z) c.put_parts.ensures (number_is c.other.result ∙ ap (λ (b : Bool). pos (due b)) c.other.ensures)
