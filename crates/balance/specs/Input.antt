-- How much of a buffer was read.
use Rattle.std.specs.Prelude.{List, ℕ, ◌<◌, length, take, Option, Result, IfOk}
use Rattle.std.specs.Io.KnownBytes.{Consumes, IsAtEnd}
use Rattle.report.specs.Call.{IsPrefixLen}

-- what is known to have been left before and after: its first n bytes stand at the beginning of buf, and if there is more room, they are all
abbrev pub Within : {E : Type 0} → (before after : Option (List ℕ)) → List ℕ → Result ℕ E → Type 0
Within before after buf r = IfOk r (λ n. IsPrefixLen n buf × Consumes before after (take n buf) × (n < length buf → IsAtEnd after))
