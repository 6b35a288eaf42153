use mathlib.Core.Path.{◌≡◌, refl}
use mathlib.Core.Bool.{true, false}
use native.Mathlib.Nat.{sub-zero}
use borrow.Author.Rules.{rules}
use borrow.Author.Tests.{tests}
use Rattle.std.proofs.lemmas.Iterator.{cases_from_all, YieldsList-from_range}
use Rattle.interval.specs.Interval.{in_range}
use Rattle.start_box.specs.Code.{components_of}
use Rattle.start_box.proofs.Every.{range_answer}
use Rattle.start_box.proofs.internal.widen.BoxAround.all_in_range.Goals as goal

pub returns : goal.returns
returns c =
    let x = c.args.self.now in
    range_answer (components_of x) x.n _
    (cases_from_all _ _ _ (λ i. in_range (components_of x i) ≡ true) (λ i. in_range (components_of x i) ≡ false) c.all.ensures.ran (YieldsList-from_range 0 x.n x.n refl (sub-zero x.n))
    (λ y q k. search (rules, tests)) (λ y q k. search (rules, tests)))
