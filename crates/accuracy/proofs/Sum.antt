-- The exact sum of a row's products over one denominator.
use mathlib.Core.Path.{◌≡◌, refl, ap, ap₂, ◌∙◌}
use Prim.Native.Nat.{ℕ, zero, suc, ◌+◌, ◌<◌}
use native.Mathlib.Omega.{arith}
use lib.IntN.{ℤ, pos, ◌+ℤ◌, ◌*ℤ◌, +ℤ_idr, +ℤ_assoc}
use lib.Signed.{◌<ℤ◌}
use Rattle.integer.proofs.Linear.{reading, ring, over}
use Rattle.integer.proofs.Order.{both_pos}
use Rattle.interval.specs.Interval.{scale}
use Rattle.interval.proofs.Range.{scale_above}
use Rattle.fraction.specs.Fraction.{Fraction, Same, millionths, sum, product_at}
use Rattle.rows.specs.Exact.{exact_row}
use Rattle.accuracy.proofs.Common.{ratio}
use Rattle.accuracy.proofs.Row.{dot}

-- u over q·d, in millionths: so the product of a number over q and one over d is written
abbrev pub parts : (u q d : ℤ) → pos 0 <ℤ q → pos 0 <ℤ d → Fraction
parts u q d h k = ratio u (q *ℤ d *ℤ scale) (both_pos (q *ℤ d) scale (both_pos q d h k) scale_above)

-- one more product
sum_step : {u c w q d : ℤ} {h : pos 0 <ℤ q} {k : pos 0 <ℤ d} {a b x : Fraction} → Same (parts u q d h k) a → Same (ratio c q h) b → Same (ratio w d k) x →
    Same (parts (u +ℤ c *ℤ w) q d h k) (sum a (product_at millionths b x))
unfolding sum product_at
sum_step {u} {c} {w} {q} {d} {a = a} {b = b} {x = x} e f g =
    record {
      holds =
          apart u c w a.den b.den x.den scale ∙
          ap₂ (λ y z. y *ℤ (b.den *ℤ x.den *ℤ scale) +ℤ z *ℤ (a.den *ℤ scale)) e.holds (ap₂ ◌*ℤ◌ f.holds g.holds) ∙
          again a.num a.den b.num b.den x.num x.den q d scale;
    }
  where
    apart : (u c w a b x s : ℤ) → (u +ℤ c *ℤ w) *ℤ (a *ℤ (b *ℤ x *ℤ s)) ≡ (u *ℤ a) *ℤ (b *ℤ x *ℤ s) +ℤ ((c *ℤ b) *ℤ (w *ℤ x)) *ℤ (a *ℤ s)
    apart = over 7 _ (λ ρ. simp reading (ring _ _ _ tt))

    again : (m a n b o x q d s : ℤ) →
        (m *ℤ (q *ℤ d *ℤ s)) *ℤ (b *ℤ x *ℤ s) +ℤ ((n *ℤ q) *ℤ (o *ℤ d)) *ℤ (a *ℤ s) ≡ (m *ℤ (b *ℤ x *ℤ s) +ℤ (n *ℤ o) *ℤ a) *ℤ (q *ℤ d *ℤ s)
    again = over 9 _ (λ ρ. simp reading (ring _ _ _ tt))

-- b(j) is c(j)/q and x(j) is w(j)/d
module _ {n : ℕ} {b x : ℕ → Fraction} {c w : ℕ → ℤ} {q d : ℤ} {h : pos 0 <ℤ q} {k : pos 0 <ℤ d}
    (f : (j : ℕ) → j < n → Same (ratio (c j) q h) (b j)) (g : (j : ℕ) → j < n → Same (ratio (w j) d k) (x j)) where
  pub sum_same : (m j : ℕ) {u : ℤ} {a : Fraction} → j + m ≡ n → Same (parts u q d h k) a → Same (parts (u +ℤ dot c w m j) q d h k) (exact_row b x m j a)
  unfolding exact_row dot
  sum_same zero j {u} {a} l e = rw (+ℤ_idr u) e
  sum_same (suc m) j {u} {a} l e =
      rw (← (+ℤ_assoc u (c j *ℤ w j) (dot c w m (j + 1)))) (sum_same m (j + 1) (omega arith) (sum_step e (f j (omega arith)) (g j (omega arith))))

-- the terms from p on are the terms of what is shifted by p
pub dot_shift : (c w : ℕ → ℤ) (p d j : ℕ) → dot (λ i. c (p + i)) (λ i. w (p + i)) d j ≡ dot c w d (p + j)
unfolding dot
dot_shift c w p zero j = refl
dot_shift c w p (suc d) j = let e : p + (j + 1) ≡ p + j + 1 = omega arith in ap (λ z. c (p + j) *ℤ w (p + j) +ℤ z) (dot_shift c w p d (j + 1) ∙ ap (dot c w d) e)
