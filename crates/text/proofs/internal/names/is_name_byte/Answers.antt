use mathlib.Core.Path.{◌≡◌, sym, ◌∙◌}
use mathlib.Core.Bool.{true, false}
use Rattle.std.specs.Char.{is_ascii_alphanumeric}
use Rattle.text.proofs.Names.{byte_is}
use Rattle.text.proofs.internal.names.is_name_byte.Goals as goal

pub returns-then-is_ascii_alphanumeric : goal.returns-then-is_ascii_alphanumeric
returns-then-is_ascii_alphanumeric c =
    let e : is_ascii_alphanumeric c.args.b ≡ true = sym c.is_ascii_alphanumeric.ensures.value ∙ c.if-is_ascii_alphanumeric.true in
    c.if-is_ascii_alphanumeric.true ∙ rw e at (byte_is c.args.b)

pub returns-else-is_ascii_alphanumeric : goal.returns-else-is_ascii_alphanumeric
returns-else-is_ascii_alphanumeric c =
    let e : is_ascii_alphanumeric c.args.b ≡ false = sym c.is_ascii_alphanumeric.ensures.value ∙ c.if-is_ascii_alphanumeric.false in
    rw e at (byte_is c.args.b)
