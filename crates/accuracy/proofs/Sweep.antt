-- A pass keeps every solution, for any way to sum a row that encloses the exact sum.
use mathlib.Core.Path.{◌≡◌, refl, ap, ◌∙◌}
use mathlib.Core.Bool.{Bool, true, false, cond}
use mathlib.Core.List.{List, [], ◌∷◌, ◌++◌}
use Prim.Native.Nat.{ℕ, zero, suc, ◌+◌, ◌*◌, ◌<◌}
use native.Mathlib.Omega.{arith}
use native.Mathlib.Nat.{zero-add}
use native.Mathlib.Decide.{ℕ_discrete}
use lib.IntN.{ℤ, pos, ◌+ℤ◌, ◌*ℤ◌}
use lib.ListN.{length}
use lib.Signed.{◌≤ℤ◌, clash_ℤ}
use Rattle.integer.proofs.Linear.{reading, ring, over}
use Rattle.integer.proofs.Order.{taken}
use Rattle.interval.specs.declared.Interval.{Interval}
use Rattle.interval.specs.Interval.{is_empty}
use Rattle.fraction.specs.Fraction.{Fraction, Inside, Same, millionths, sum, product_at}
use Rattle.fraction.proofs.Inside.{same_sym, inside_same, in_order, intersection_inside}
use Rattle.fraction.proofs.Sum.{sum_inside}
use Rattle.inputs.specs.Place.{at, put}
use Rattle.inputs.specs.System.{System}
use Rattle.inputs.proofs.Place.{length_put, at_put_same, at_put_other}
use Rattle.rows.specs.Sum.{RowSum}
use Rattle.rows.specs.Exact.{nought, exact_row, Encloses}
use Rattle.sweep.proofs.Turns.{Below, sweep_below, symmetric_below, symmetric_along}
use Rattle.sweep.proofs.Pass.{not_empty, component_narrows, put_narrows}
use Rattle.sweep.specs.Pass.{component, along, up, down, sweep, symmetric}
use Rattle.outcome.specs.declared.Refusal.TheVariants as refusal
use Rattle.outcome.specs.Run.{Run, refused}
use Rattle.accuracy.specs.Solution.{Solution, InBox}
use Rattle.accuracy.proofs.Common.{same_trans}
use Rattle.accuracy.proofs.Follows.{Follows, follows_refl, follows_trans, earlier, OnPass, Faithful}

-- ---- a solution's row begins with its constant, a row sum with nought: what begins with b + a is b and what begins with a
sum_on : (b a p : Fraction) {c : Fraction} → Same c (sum b a) → Same (sum c p) (sum b (sum a p))
unfolding sum
sum_on b a p {c} e =
    record {
      holds =
          apart c.num c.den b.den a.den p.num p.den ∙
          ap (λ z. z *ℤ (p.den *ℤ p.den) +ℤ p.num *ℤ c.den *ℤ (b.den *ℤ (a.den *ℤ p.den))) e.holds ∙
          again c.den b.num b.den a.num a.den p.num p.den;
    }
  where
    apart : (m c b a n p : ℤ) → (m *ℤ p +ℤ n *ℤ c) *ℤ (b *ℤ (a *ℤ p)) ≡ m *ℤ (b *ℤ a) *ℤ (p *ℤ p) +ℤ n *ℤ c *ℤ (b *ℤ (a *ℤ p))
    apart = over 6 _ (λ ρ. simp reading (ring _ _ _ tt))

    again : (c k b l a n p : ℤ) →
        (k *ℤ a +ℤ l *ℤ b) *ℤ c *ℤ (p *ℤ p) +ℤ n *ℤ c *ℤ (b *ℤ (a *ℤ p)) ≡ (k *ℤ (a *ℤ p) +ℤ (l *ℤ p +ℤ n *ℤ a) *ℤ b) *ℤ (c *ℤ p)
    again = over 7 _ (λ ρ. simp reading (ring _ _ _ tt))

row_from : (c w : ℕ → Fraction) (d j : ℕ) (b a : Fraction) {e : Fraction} → Same e (sum b a) → Same (exact_row c w d j e) (sum b (exact_row c w d j a))
unfolding exact_row
row_from c w zero j b a h = h
row_from c w (suc d) j b a h = row_from c w d (j + 1) b _ (sum_on b a (product_at millionths (c j) (w j)) h)

and_nought : (b : Fraction) → Same b (sum b nought)
unfolding sum
and_nought b = record { holds = go b.num b.den }
  where
    go : (p q : ℤ) → p *ℤ (q *ℤ pos 1) ≡ (p *ℤ pos 1 +ℤ pos 0 *ℤ q) *ℤ q
    go = over 2 _ (λ ρ. simp (reading, ρ) (ring _ _ _ tt))

-- ---- what holds a fraction is not empty
pub held_not_empty : {A : Type 0} {v : Interval} {a : Fraction} → is_empty v ≡ true → Inside v a → A
unfolding is_empty
held_not_empty {v = v} e h = clash_ℤ (taken v.hi v.lo e) (in_order h)

module _ (sum : RowSum) (encloses : Encloses sum) (s : System) where
  -- ---- one component
  component_inside : (X : List ℤ) (i : ℕ) → i < s.size → (x : ℕ → Fraction) → Solution s x → InBox s.size X x → Inside (component sum s X i) (x i)
  unfolding component
  component_inside X i h x sol k =
      let c = sol.choice in
      intersection_inside
      (inside_same (same_sym (same_trans (sol.meets.row i h) (row_from (c.coefficient i) x s.size 0 (c.constant i) nought (and_nought (c.constant i)))))
      (sum_inside (c.constant_in i h)
      (encloses.holds s.matrix (i * s.size) X 0 s.size (c.coefficient i) x (λ j l. c.coefficient_in i j h l) (λ j l. rw (zero-add j) (k.each j l)))))
      (k.each i h)

  put_follows : (X : List ℤ) (i : ℕ) → i < s.size → length X ≡ 2 * s.size → is_empty (component sum s X i) ≡ false → Follows s X (put X i (component sum s X i))
  put_follows X i h l e =
      record {
        as_long = length_put X i v;
        narrowed = record { each = λ j k. put_narrows X i v (omega arith) (component_narrows sum s X i) j };
        ordered = λ o. record { each = λ j k. by_place (λ j w. w.lo ≤ℤ w.hi) (not_empty e) j (o.each j k) };
        keeps = λ x sol k. record { each = λ j m. by_place (λ j w. Inside w (x j)) (component_inside X i h x sol k) j (k.each j m) };
      }
    where
      v : Interval
      v = component sum s X i

      -- what holds of the new component i and of the old other ones
      by_place : (P : ℕ → Interval → Type 0) → P i v → (j : ℕ) → P j (at X j) → P j (at (put X i v) j)
      by_place P new j old = go (ℕ_discrete j i)
        where
          go : Dec (j ≡ i) → P j (at (put X i v) j)
          go (yes f) = rw (f, at_put_same X i v (omega arith)) new
          go (no f) = rw (at_put_other X i j v f) old

  -- ---- the components of a list, from a box X that follows the one before the pass
  pub along_follows : (is : List ℕ) → Below s.size is → {X₀ X : List ℤ} → length X ≡ 2 * s.size → Follows s X₀ X → OnPass s X₀ (along sum s is X)
  unfolding along
  along_follows [] b l f = f
  along_follows (i ∷ is) b {X₀} {X} l f =
      go (is_empty v) refl (λ q. let g = put_follows X i b.0 l q in along_follows is b.1 (g.as_long ∙ l) (follows_trans s f g))
    where
      v : Interval
      v = component sum s X i

      rest : Run (List ℤ)
      rest = along sum s is (put X i v)

      go : (t : Bool) → is_empty v ≡ t → (is_empty v ≡ false → OnPass s X₀ rest) → OnPass s X₀ (cond t (refused (refusal.Empty (i + 1))) rest)
      go true q g = earlier s f (λ x sol k. held_not_empty q (component_inside X i b.0 x sol k))
      go false q g = g q

  pub sweep_faithful : Faithful s (sweep sum s)
  unfolding sweep
  sweep_faithful = record { each = λ X l. along_follows (up s.size 0) (sweep_below s.size) l (follows_refl s X) }

  pub symmetric_faithful : Faithful s (symmetric sum s)
  symmetric_faithful =
      record { each = λ X l. rw (symmetric_along sum s X) (along_follows (up s.size 0 ++ down s.size) (symmetric_below s.size) l (follows_refl s X)) }
