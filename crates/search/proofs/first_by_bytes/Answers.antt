use mathlib.Core.Path.{◌≡◌, ◌∙◌}
use borrow.Author.Rules.{rules}
use borrow.Author.Tests.{tests}
use Rattle.std.proofs.lemmas.List.{take_rest}
use Rattle.std.proofs.lemmas.Iterator.{YieldsList-from_slice}
use Rattle.std.proofs.lemmas.Iterator.Search.{position_from_yields_List}
use Rattle.std.specs.Prelude.{◌+◌, eqb, option_map, position}
use lib.ListN.{drop}
use Rattle.search.proofs.Turn.{by_position}
use Rattle.search.proofs.first_by_bytes.Goals as goal

pub returns : goal.returns
returns c =
    let rest = drop c.args.from c.args.s.now in
    let e : c.position.result ≡ position (λ x. eqb x c.args.b) rest = position_from_yields_List (λ x. eqb x c.args.b) _ _ c.position.result c.position.ensures.ran (YieldsList-from_slice rest (c.iter.ensures.rest ∙ take_rest c.args.s.now c.args.from)) (λ x b q k. search (rules, tests)) in
    let f : c.map.result ≡ option_map (λ k. c.args.from + k) c.position.result = search rules in
    rw (by_position c.args.s.now c.args.from c.args.b) cc
