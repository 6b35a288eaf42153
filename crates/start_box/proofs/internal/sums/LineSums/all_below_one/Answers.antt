use mathlib.Core.Path.{◌≡◌, refl}
use mathlib.Core.Bool.{true, false}
use native.Mathlib.Nat.{sub-zero}
use borrow.Author.Rules.{rules}
use borrow.Author.Tests.{tests}
use lib.Signed.{lt_z}
use Rattle.std.proofs.lemmas.Iterator.{cases_from_all, YieldsList-from_range}
use Rattle.interval.specs.Interval.{scale}
use Rattle.start_box.specs.Code.{sums_of}
use Rattle.start_box.proofs.Every.{below_answer}
use Rattle.start_box.proofs.internal.sums.LineSums.all_below_one.Goals as goal

pub returns : goal.returns
unfolding scale
returns c =
    let s = c.args.self.now in
    below_answer (sums_of s) s.n _
    (cases_from_all _ _ _ (λ i. lt_z (sums_of s i) scale ≡ true) (λ i. lt_z (sums_of s i) scale ≡ false) c.all.ensures.ran (YieldsList-from_range 0 s.n s.n refl (sub-zero s.n))
    (λ x q k. search (rules, tests)) (λ x q k. search (rules, tests)))
