-- A row's sum is small, and has its ends in sequence.
use mathlib.Core.Path.{◌≡◌, subst}
use mathlib.Core.List.{List}
use Prim.Native.Nat.{ℕ, zero, suc, ◌+◌, ◌*◌}
use native.Mathlib.Omega.{arith}
use lib.IntN.{ℤ}
use Rattle.interval.specs.declared.Interval.{Interval}
use Rattle.interval.specs.Interval.{exact_sum, exact_product, zero as zeroInterval}
use Rattle.inputs.specs.Place.{at}
use Rattle.inputs.specs.Code.{Sound}
use Rattle.rows.specs.Sum.{exactly, once}
use Rattle.rows.proofs.Size.{Small, zero_small, sum_small, exact_product_small, rounded_small}

pub exactly_small : (m : List ℤ) (p : ℕ) (x : List ℤ) (q d j k : ℕ) (acc : Interval) → Sound m → Sound x → Small k acc → Small (k + 4000000000000000000 * d) (exactly m p x q d j acc)
unfolding exactly
exactly_small m p x q zero j k acc h g s = let e : k ≡ k + 4000000000000000000 * 0 = omega arith in subst (λ (l : ℕ). Small l acc) e s
exactly_small m p x q (suc d) j k acc h g s =
    let e : k + 4000000000000000000 + 4000000000000000000 * d ≡ k + 4000000000000000000 * suc d = omega arith in
    subst (λ (l : ℕ). Small l (exactly m p x q d (j + 1) (exact_sum acc (exact_product (at m (p + j)) (at x (q + j)))))) e
    (exactly_small m p x q d (j + 1) (k + 4000000000000000000) _ h g (sum_small s (exact_product_small _ _ (h.each (p + j)) (g.each (q + j)))))

pub once_small : (m : List ℤ) (p : ℕ) (x : List ℤ) (q d : ℕ) → Sound m → Sound x → Small (4000000000000 * d) (once m p x q d)
unfolding once
once_small m p x q d h g =
    let e : 0 + 4000000000000000000 * d ≡ 4000000000000 * d * 1000000 = omega arith in
    rounded_small (4000000000000 * d) (subst (λ (l : ℕ). Small l (exactly m p x q d 0 zeroInterval)) e (exactly_small m p x q d 0 0 zeroInterval h g zero_small))
