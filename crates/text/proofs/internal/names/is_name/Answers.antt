use mathlib.Core.Path.{◌∙◌}
use borrow.Author.Rules.{rules}
use borrow.Author.Tests.{tests}
use Rattle.std.proofs.lemmas.Iterator.{YieldsList-from_slice}
use Rattle.std.proofs.lemmas.Iterator.Search.{all_from_yields_List}
use Rattle.text.specs.Names.{name_byte}
use Rattle.text.proofs.Names.{name_fits, bytes_all}
use Rattle.text.proofs.internal.names.is_name.Goals as goal

pub returns-then-s-le-LONGEST : goal.returns-then-s-le-LONGEST
returns-then-s-le-LONGEST c =
    let s = c.args.s.now in
    all_from_yields_List name_byte _ _ c.all.result c.all.ensures.ran (YieldsList-from_slice s c.iter.ensures.rest) (λ x b q k. search (rules, tests))
    ∙ bytes_all s ∙ name_fits s c.if-s-le-LONGEST.true.0 c.if-s-le-LONGEST.true.1
