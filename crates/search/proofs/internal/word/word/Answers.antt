use mathlib.Core.Path.{◌≡◌, ap, ◌∙◌}
use borrow.Author.Rules.{rules}
use native.Mathlib.Omega.{arith}
use lib.ListN.{length, take, drop}
use Prim.Native.Nat.{◌≤◌}
use Rattle.std.specs.Int.{from_le_bytes, w64}
use Rattle.std.proofs.lemmas.List.{length-take}
use Rattle.search.specs.Word.{word_at}
use Rattle.search.proofs.Words.{eight_bytes}
use Rattle.search.proofs.internal.word.word.Goals as goal

pub returns : goal.returns
unfolding word_at
returns c =
    let bytes = take 8 (drop c.args.i c.args.s.now) in
    let e : c.unwrap.result.now ≡ bytes = search rules in
    let h : length bytes ≤ 8 = simp length-take (omega arith) in
    c.from_le_bytes.ensures ∙ ap (from_le_bytes w64) e ∙ eight_bytes bytes h
