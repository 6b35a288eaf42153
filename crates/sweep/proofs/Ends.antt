-- Whether two intervals differ: as the definition compares them, and as the code does.
use mathlib.Core.Path.{◌≡◌, refl}
use mathlib.Core.Bool.{Bool, true, false, cond, not, ◌&&◌, ◌||◌}
use Rattle.std.proofs.Common.{Less, Equal, Greater}
use Rattle.std.specs.Ordering.{is_eq, int_eq}
use Rattle.interval.specs.declared.Interval.{Interval}
use Rattle.sweep.specs.Pass.{differs}

pub differs_is : (v w : Interval) → not (int_eq v.lo w.lo && int_eq v.hi w.hi) ≡ differs v w
unfolding differs
differs_is v w = go _ _ _ _
  where
    same : Bool → Bool → Bool
    same below above = is_eq (cond below Less (cond above Greater Equal))

    go : (a b c d : Bool) → not (same a b && same c d) ≡ ((a || b) || (c || d))
    go true b c d = refl
    go false true c d = refl
    go false false true d = refl
    go false false false true = refl
    go false false false false = refl
