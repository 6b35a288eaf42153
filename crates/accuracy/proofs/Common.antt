-- From fractions each over its own denominator to whole numbers over one.
use mathlib.Core.Path.{◌≡◌, ap, ◌∙◌}
use Prim.Native.Nat.{ℕ, zero, suc, ◌<◌}
use native.Mathlib.Omega.{arith}
use native.Mathlib.Decide.{ℕ_discrete}
use lib.IntN.{ℤ, pos, ◌*ℤ◌}
use lib.Signed.{◌<ℤ◌, lt_z_yes, ≤ℤ_refl}
use Rattle.integer.proofs.Linear.{reading, ring, over}
use Rattle.integer.proofs.Order.{antisym, cancel, both_pos}
use Rattle.fraction.specs.Fraction.{Fraction, Same}

abbrev pub ratio : (p q : ℤ) → pos 0 <ℤ q → Fraction
ratio p q h = record { num = p; den = q; above = h }

-- a positive factor on both sides is left out
pub cancel_same : (a b c : ℤ) → pos 0 <ℤ c → a *ℤ c ≡ b *ℤ c → a ≡ b
cancel_same a b c h e = antisym a b (cancel a b c h (rw e (≤ℤ_refl (b *ℤ c)))) (cancel b a c h (rw e (≤ℤ_refl (b *ℤ c))))

pub same_trans : {a b c : Fraction} → Same a b → Same b c → Same a c
same_trans {a} {b} {c} e f =
    record {
      holds = cancel_same _ _ b.den b.above
          (turn a.num c.den b.den ∙ ap (λ z. z *ℤ c.den) e.holds ∙ turn b.num a.den c.den ∙ ap (λ z. z *ℤ a.den) f.holds ∙ turn c.num b.den a.den);
    }
  where
    turn : (p q r : ℤ) → (p *ℤ q) *ℤ r ≡ (p *ℤ r) *ℤ q
    turn = over 3 _ (λ ρ. simp reading (ring _ _ _ tt))

-- ---- a fraction widened by a factor stays the same
pub widen_same : {p q : ℤ} {h : pos 0 <ℤ q} (r : ℤ) (k : pos 0 <ℤ r) {a : Fraction} → Same (ratio p q h) a → Same (ratio (p *ℤ r) (q *ℤ r) (both_pos q r h k)) a
widen_same {p} {q} r k {a} e = record { holds = turn p a.den r ∙ ap (λ z. z *ℤ r) e.holds ∙ back a.num q r }
  where
    turn : (p d r : ℤ) → (p *ℤ r) *ℤ d ≡ (p *ℤ d) *ℤ r
    turn = over 3 _ (λ ρ. simp reading (ring _ _ _ tt))

    back : (n q r : ℤ) → (n *ℤ q) *ℤ r ≡ n *ℤ (q *ℤ r)
    back = over 3 _ (λ ρ. simp reading (ring _ _ _ tt))

-- a over a's own denominator times q
pub own_same : (q : ℤ) (h : pos 0 <ℤ q) (a : Fraction) → Same (ratio (a.num *ℤ q) (q *ℤ a.den) (both_pos q a.den h a.above)) a
own_same q h a = record { holds = turn a.num q a.den }
  where
    turn : (p q d : ℤ) → (p *ℤ q) *ℤ d ≡ p *ℤ (q *ℤ d)
    turn = over 3 _ (λ ρ. simp reading (ring _ _ _ tt))

-- ---- n fractions over one denominator
pub record Common (n : ℕ) (a : ℕ → Fraction) : Type 0 where
  pub num : ℕ → ℤ
  pub den : ℤ
  pub above : pos 0 <ℤ den
  pub same : (j : ℕ) → j < n → Same (ratio (num j) den above) (a j)

pub common : (n : ℕ) (a : ℕ → Fraction) → Common n a
common zero a = record { num = λ j. pos 0; den = pos 1; above = lt_z_yes tt; same = λ j h. absurd (omega arith) }
common (suc n) a = more (common n a)
  where
    pick : Common n a → (j : ℕ) → Dec (j ≡ n) → ℤ
    pick c j (yes e) = (a n).num *ℤ c.den
    pick c j (no e) = c.num j *ℤ (a n).den

    pick_same : (c : Common n a) (j : ℕ) → j < suc n → (d : Dec (j ≡ n)) →
        Same (ratio (pick c j d) (c.den *ℤ (a n).den) (both_pos c.den (a n).den c.above (a n).above)) (a j)
    pick_same c j h (yes e) = rw e (own_same c.den c.above (a n))
    pick_same c j h (no e) = widen_same (a n).den (a n).above (c.same j (omega (arith, e)))

    more : Common n a → Common (suc n) a
    more c =
        record {
          num = λ j. pick c j (ℕ_discrete j n);
          den = c.den *ℤ (a n).den;
          above = both_pos c.den (a n).den c.above (a n).above;
          same = λ j h. pick_same c j h (ℕ_discrete j n);
        }
