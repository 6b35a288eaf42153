-- The next products of a row: one, or two that are added together first.
use mathlib.Core.Path.{◌≡◌, sym, ap, ap₂, subst, ◌∙◌}
use mathlib.Core.List.{List}
use Prim.Native.Nat.{ℕ, ◌+◌}
use native.Mathlib.Omega.{arith}
use lib.IntN.{ℤ, pos, ◌+ℤ◌, ◌*ℤ◌}
use lib.Signed.{◌≤ℤ◌}
use Rattle.integer.proofs.Linear.{linear, over}
use Rattle.integer.proofs.Order.{also, prod, trans}
use Rattle.interval.specs.declared.Interval.{Interval}
use Rattle.interval.specs.Interval.{exact_sum, exact_product}
use Rattle.interval.specs.Code.{Representable}
use Rattle.interval.proofs.Range.{is_sound}
use Rattle.interval.proofs.Signs.{above_least_above}
use Rattle.interval.proofs.Exchanged.{exchanged}
use Rattle.inputs.specs.Place.{at}
use Rattle.inputs.specs.Code.{Sound}
use Rattle.wide_sum.specs.declared.WideInterval.{WideInterval}
use Rattle.wide_sum.specs.Wide.{held_both}
use Rattle.wide_sum.specs.Code.{AddedBoth}
use Rattle.wide_sum.proofs.Near.{near_both_more}
use Rattle.rows.specs.Code.{Summed, Above}
use Rattle.rows.proofs.Exact.{one_product, two_products}
use Rattle.rows.proofs.Size.{Small, sum_small, exact_product_small, small_fits}

-- a product whose factors were exchanged
pub turned : {a b u v w : Interval} → a ≡ v → b ≡ w → u ≡ exact_product b a → u ≡ exact_product v w
turned {v = v} {w = w} e f g = g ∙ ap₂ exact_product f e ∙ exchanged v w

module _ (m : List ℤ) (p : ℕ) (x : List ℤ) (q j : ℕ) where
  abbrev pair : Interval
  pair = exact_sum (exact_product (at m (p + j)) (at x (q + j))) (exact_product (at m (p + (j + 1))) (at x (q + (j + 1))))

  pub one_summed : {acc r : WideInterval} {u : Interval} → u ≡ exact_product (at m (p + j)) (at x (q + j)) → AddedBoth acc u r → Summed acc m (p + j) x (q + j) 1 r
  one_summed {acc} e a = record { is = a.is ∙ ap (exact_sum (held_both acc)) e ∙ sym (one_product m (p + j) x (q + j) (held_both acc)); near = a.near }

  pub two_summed : {acc r : WideInterval} {u : Interval} → u ≡ pair → AddedBoth acc u r → Summed acc m (p + j) x (q + j) 2 r
  two_summed {acc} e a =
      let f : p + (j + 1) ≡ p + j + 1 = omega arith in
      let g : q + (j + 1) ≡ q + j + 1 = omega arith in
      let h = rw (f, g) at e in
      record {
        is = a.is ∙ ap (exact_sum (held_both acc)) h ∙ sym (two_products m (p + j) x (q + j) (held_both acc));
        near = λ k n. near_both_more (omega arith) (a.near k n);
      }

  -- two products together fit an i64
  module _ (h : Sound m) (g : Sound x) where
    pair_small : Small (4000000000000000000 + 4000000000000000000) pair
    pair_small = sum_small (exact_product_small _ _ (h.each (p + j)) (g.each (q + j))) (exact_product_small _ _ (h.each (p + (j + 1))) (g.each (q + (j + 1))))

    pub pair_fits : {u : Interval} → u ≡ pair → Representable u
    pair_fits e = subst Representable (sym e) (small_fits (omega arith) pair_small)

    -- and are not below 0 if no factor is
    pub pair_above : {u : Interval} → u ≡ pair → Above (at m (p + j)) (at x (q + j)) → Above (at m (p + (j + 1))) (at x (q + (j + 1))) → (pos 0 ≤ℤ u.lo) × (pos 0 ≤ℤ u.hi)
    unfolding exact_sum exact_product
    pair_above e a b =
        let v = is_sound _ (h.each (p + j)) in
        let w = is_sound _ (g.each (q + j)) in
        let v' = is_sound _ (h.each (p + (j + 1))) in
        let w' = is_sound _ (g.each (q + (j + 1))) in
        let l : pos 0 ≤ℤ pair.lo =
        rw (above_least_above v w a.0 a.1, above_least_above v' w' b.0 b.1) (go _ _ _ _ a.0 a.1 b.0 b.1) in
        subst (λ (u : Interval). (pos 0 ≤ℤ u.lo) × (pos 0 ≤ℤ u.hi)) (sym e) (l, trans l pair_small.order)
      where
        go : (a b c d : ℤ) → pos 0 ≤ℤ a → pos 0 ≤ℤ b → pos 0 ≤ℤ c → pos 0 ≤ℤ d → pos 0 ≤ℤ (a *ℤ b +ℤ c *ℤ d)
        go = over 4 _ (λ ρ h₁ h₂ h₃ h₄. also (prod h₁ h₂) (also (prod h₃ h₄) (simp (linear, ρ) (omega arith))))
