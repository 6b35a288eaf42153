use mathlib.Core.Path.{◌≡◌, sym, ap, ◌∙◌}
use mathlib.Core.Bool.{true, not}
use lib.Dec.{eqb}
use Rattle.std.specs.List.{list_any}
use Rattle.text.specs.Code.{is_new}
use Rattle.text.specs.Names.{is_name}
use Rattle.text.proofs.Names.{name_bytes}
use Rattle.text.proofs.Entered.{no_name, new_by}
use Rattle.text.proofs.internal.names.enter.Goals as goal
use Rattle.text.proofs.internal.names.enter.Goals.{Else-not-is_name, After-contains}

named : (c : Else-not-is_name) → is_name c.args.name.now ≡ true
named c = sym c.is_name.ensures ∙ c.if-not-is_name.false

-- what the three calls say of the name
told : (c : After-contains) → let a = c.args in not c.contains.result ≡ is_new a.codes.now.items a.name.now
told c = new_by _ _ (sym c.is_name.ensures ∙ c.if-not-is_name.false) c.pack-code.ensures (c.contains.ensures.value ∙ ap (list_any (λ y. eqb y c.pack-code.result)) c.as_slice.ensures.value)

pub returns-then-not-is_name-clause-value : goal.returns-then-not-is_name-clause-value
returns-then-not-is_name-clause-value c = no_name _ _ (sym c.is_name.ensures ∙ c.if-not-is_name.true)

pub pack-code-requires : goal.pack-code-requires
pack-code-requires c = (name_bytes _ (named c)).0

pub returns-then-contains-clause-value : goal.returns-then-contains-clause-value
returns-then-contains-clause-value c = ap not (sym c.if-contains.true) ∙ told (goal.at.returns-then-contains-clause-value c).After-contains

pub returns-clause-value : goal.returns-clause-value
returns-clause-value c = ap not (sym c.if-contains.false) ∙ told (goal.at.returns-clause-value c).After-contains
