use mathlib.Core.Path.{refl}
use Prim.Native.Nat.{ℕ}
use native.Mathlib.Omega.{arith}
use borrow.Author.Rules.{rules}
use borrow.Author.Tests.{tests}
use lib.IntN.{pos}
use lib.Signed.{◌≤ℤ◌}
use Rattle.std.proofs.lemmas.Iterator.{cases_from_all, YieldsList-from_range}
use Rattle.inputs.specs.Place.{at}
use Rattle.rows.proofs.Word.{above_read, above_all}
use Rattle.rows.proofs.internal.word.all_above.Goals as goal

pub returns : goal.returns
returns c =
    let m = cases_from_all _ _ c.all.result (λ (j : ℕ). pos 0 ≤ℤ (at c.args.x.now j).lo) (λ (j : ℕ). Unit {0}) c.all.ensures.ran (YieldsList-from_range 0 c.args.n c.args.n refl (omega arith)) (λ x q k. search (rules, tests, above_read)) (λ x q k. tt) in
    λ e. above_all _ _ c.requires.0 (rw e at m)
