use Rattle.std.specs.Prelude.{◌<◌, ◌≤◌, length}
use Rattle.vectors.specs.declared.reader.Reader.{Reader}

-- reading goes on from one state of a reader to another; of two states, so no field of the reader can say it
abbrev pub Passed : Reader → Reader → Type 0
Passed before after = length after.rest.now ≤ length before.rest.now

-- and passes at least one byte
abbrev pub PassedSome : Reader → Reader → Type 0
PassedSome before after = length after.rest.now < length before.rest.now
