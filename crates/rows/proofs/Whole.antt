-- Whole units added to a row that is rounded once are the whole row rounded once.
use mathlib.Core.Path.{◌≡◌, refl, sym, ap, ◌∙◌}
use mathlib.Core.List.{List}
use Prim.Native.Nat.{ℕ, zero, suc, ◌+◌}
use lib.IntN.{ℤ, pos, neg_ℤ, ◌+ℤ◌, ◌-ℤ◌, ◌*ℤ◌, neg_ℤ-neg_ℤ}
use Rattle.integer.specs.Rounding.{floor_div, ceil_div}
use Rattle.integer.proofs.Linear.{reading, read_pos, ring, over}
use Rattle.interval.specs.declared.Interval.{Interval}
use Rattle.interval.specs.Interval.{scale, exact_sum, exact_difference, exact_product, rounded, zero as noughtInterval}
use Rattle.interval.proofs.Range.{scale_above, same_ends}
use Rattle.inputs.specs.Place.{at}
use Rattle.wide_sum.proofs.Parts.{floor_whole, ceil_whole}
use Rattle.rows.specs.Sum.{exactly, once}
use Rattle.rows.specs.Whole.{in_parts, WholeRowOnce}
use Rattle.rows.proofs.Exact.{sum_assoc}

sum_nought : (u : Interval) → exact_sum u noughtInterval ≡ u
unfolding exact_sum
sum_nought u = same_ends _ _ (same u.lo) (same u.hi)
  where
    same : (a : ℤ) → (a +ℤ pos 0) ≡ a
    same = over 1 _ (λ ρ. simp (reading, read_pos, ρ) (ring _ _ _ tt))

-- what is there before the products can be added after them
module _ (m : List ℤ) (p : ℕ) (x : List ℤ) (q : ℕ) (u : Interval) where
  exactly_from : (d j : ℕ) (v : Interval) → exactly m p x q d j (exact_sum u v) ≡ exact_sum u (exactly m p x q d j v)
  unfolding exactly
  exactly_from zero j v = refl
  exactly_from (suc d) j v = rw (sum_assoc u v (exact_product (at m (p + j)) (at x (q + j)))) (exactly_from d (j + 1) _)

  exactly_started : (d : ℕ) → exactly m p x q d 0 u ≡ exact_sum u (exactly m p x q d 0 noughtInterval)
  exactly_started d = ap (exactly m p x q d 0) (sym (sum_nought u)) ∙ exactly_from d 0 noughtInterval

-- whole units and what is rounded outward
rounded_sum : (u v : Interval) → exact_sum u (rounded scale v) ≡ rounded scale (exact_sum (in_parts u) v)
unfolding exact_sum rounded in_parts
rounded_sum u v = same_ends _ _ (floor_whole u.lo v.lo scale scale_above) (ceil_whole u.hi v.hi scale scale_above)

less : (b : ℤ) → neg_ℤ (ceil_div b scale) ≡ floor_div (neg_ℤ b) scale
unfolding ceil_div
less b = neg_ℤ-neg_ℤ _

more : (b : ℤ) → neg_ℤ (floor_div b scale) ≡ ceil_div (neg_ℤ b) scale
unfolding ceil_div
more b = ap (λ z. neg_ℤ (floor_div z scale)) (sym (neg_ℤ-neg_ℤ b))

rounded_difference : (u v : Interval) → exact_difference u (rounded scale v) ≡ rounded scale (exact_difference (in_parts u) v)
unfolding exact_difference rounded in_parts
rounded_difference u v = same_ends _ _ (low u.lo v.hi) (high u.hi v.lo)
  where
    low : (a b : ℤ) → (a -ℤ ceil_div b scale) ≡ floor_div (a *ℤ scale -ℤ b) scale
    low a b = ap (λ z. a +ℤ z) (less b) ∙ floor_whole a (neg_ℤ b) scale scale_above

    high : (a b : ℤ) → (a -ℤ floor_div b scale) ≡ ceil_div (a *ℤ scale -ℤ b) scale
    high a b = ap (λ z. a +ℤ z) (more b) ∙ ceil_whole a (neg_ℤ b) scale scale_above

pub whole_row_once : WholeRowOnce
unfolding once
whole_row_once =
    record {
      sum = λ u m p x q d. rounded_sum u _ ∙ ap (rounded scale) (sym (exactly_started m p x q (in_parts u) d));
      difference = λ u m p x q d. rounded_difference u _;
    }
