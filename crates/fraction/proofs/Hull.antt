-- The hull of a set of fractions from its lower end alone: an upper end is a lower end of the opposites.
use mathlib.Core.Logic.{⊎_elim}
use native.Mathlib.Omega.{arith}
use lib.IntN.{ℤ, pos, neg_ℤ, ◌+ℤ◌, ◌*ℤ◌}
use lib.Signed.{◌≤ℤ◌, ◌<ℤ◌, clash_ℤ}
use Rattle.integer.specs.Rounding.{floor_div}
use Rattle.integer.proofs.Linear.{linear, over}
use Rattle.integer.proofs.Order.{lt_or_ge, whole_below}
use Rattle.integer.proofs.Rounding.{floor_high}
use Rattle.interval.specs.declared.Interval.{Interval}
use Rattle.interval.specs.Interval.{ends}
use Rattle.interval.specs.Code.{negated}
use Rattle.fraction.specs.Fraction.{Fraction, Inside, Operation}
use Rattle.fraction.specs.Meaning.{Result, Holds, Narrowest, Hull}
use Rattle.fraction.proofs.Inside.{opposite, opposite_opposite, negated_negated, inside_negated, to_above, in_order}

pub result : {R : Operation} {x y : Interval} {a b c : Fraction} → Inside x a → Inside y b → R a b c → Result R x y c
result {a = a} {b = b} h k e = record { left = a; right = b; left_in = h; right_in = k; exact = e }

-- ---- some fraction of the set is below k + 1
pub record Near (P : Fraction → Type 0) (k : ℤ) : Type 0 where
  pub at : Fraction
  pub at_in : P at
  pub below : at.num <ℤ ((k +ℤ pos 1) *ℤ at.den)

-- as z/d is, if it is of the set and k is z/d rounded down
pub near_floor : {P : Fraction → Type 0} (z d : ℤ) (h : pos 0 <ℤ d) → P (record { num = z; den = d; above = h }) → Near P (floor_div z d)
near_floor z d h p = record { at = record { num = z; den = d; above = h }; at_in = p; below = go (floor_div z d) z d (floor_high z d h) }
  where
    go : (f z d : ℤ) → z <ℤ (f *ℤ d +ℤ d) → z <ℤ ((f +ℤ pos 1) *ℤ d)
    go = over 3 _ (λ ρ. simp (linear, ρ) (omega arith))

-- then no whole number above k is at most every fraction of the set
near_greatest : {P : Fraction → Type 0} {k : ℤ} (m : ℤ) → Near P k → ((c : Fraction) → P c → (m *ℤ c.den) ≤ℤ c.num) → m ≤ℤ k
near_greatest {k = k} m h f = whole_below m k h.at.num h.at.den h.at.above (f h.at h.at_in) h.below

-- ---- k is the greatest whole number that is at most every fraction of the set
pub record Lower (P : Fraction → Type 0) (k : ℤ) : Type 0 where
  pub bound : (c : Fraction) → P c → (k *ℤ c.den) ≤ℤ c.num
  pub near : Near P k

-- the same set in other words
pub lower_of : {P Q : Fraction → Type 0} {k : ℤ} → ((c : Fraction) → P c → Q c) → ((c : Fraction) → Q c → P c) → Lower P k → Lower Q k
lower_of f g h =
    record { bound = λ c q. h.bound c (g c q); near = record { at = h.near.at; at_in = f h.near.at h.near.at_in; below = h.near.below } }

-- ---- both ends
pub record Ends (P : Fraction → Type 0) (v : Interval) : Type 0 where
  pub lower : Lower P v.lo
  pub upper : Lower (λ c. P (opposite c)) (neg_ℤ v.hi)

pub ends_of : {P Q : Fraction → Type 0} {v : Interval} → ((c : Fraction) → P c → Q c) → ((c : Fraction) → Q c → P c) → Ends P v → Ends Q v
ends_of f g h = record { lower = lower_of f g h.lower; upper = lower_of (λ c. f (opposite c)) (λ c. g (opposite c)) h.upper }

module _ {P : Fraction → Type 0} {v : Interval} (h : Ends P v) where
  holds : Holds P v
  holds c p =
      record { low = h.lower.bound c p; high = to_above v.hi c.num c.den (h.upper.bound (opposite c) (rw (opposite_opposite c) p)) }

  narrowest : Narrowest P v
  narrowest w f =
      record {
        low = near_greatest w.lo h.lower.near (λ c p. (f c p).low);
        high = back v.hi w.hi (near_greatest (neg_ℤ w.hi) h.upper.near (λ c p. turn w.hi c.num c.den (f (opposite c) p).high));
      }
    where
      back : (a b : ℤ) → neg_ℤ b ≤ℤ neg_ℤ a → a ≤ℤ b
      back = over 2 _ (λ ρ. simp linear (omega arith))

      turn : (k p q : ℤ) → neg_ℤ p ≤ℤ (k *ℤ q) → (neg_ℤ k *ℤ q) ≤ℤ p
      turn = over 3 _ (λ ρ. simp linear (omega arith))

-- a result shows by its operands that x and y have their ends in sequence, so the first part needs no more than the second
pub hull : {R : Operation} {x y v : Interval} → (x.lo ≤ℤ x.hi → y.lo ≤ℤ y.hi → Ends (Result R x y) v) → Hull R x y v
hull f =
    record {
      holds = λ c r. holds (f (in_order r.left_in) (in_order r.right_in)) c r;
      narrowest = λ h k. narrowest (f h k);
    }

-- the narrowest interval has its ends in sequence: else it would hold no result, and a narrower one would hold as many
pub hull_order : {R : Operation} {x y v : Interval} → Hull R x y v → x.lo ≤ℤ x.hi → y.lo ≤ℤ y.hi → v.lo ≤ℤ v.hi
hull_order {v = v} f h k = ⊎_elim (λ (n : v.hi <ℤ v.lo). narrower n) (λ g. g) (lt_or_ge v.hi v.lo)
  where
    never : (l : ℤ) → (l +ℤ pos 1) ≤ℤ l → ⊥
    never = over 1 _ (λ ρ. simp (linear, ρ) (omega arith))

    narrower : v.hi <ℤ v.lo → v.lo ≤ℤ v.hi
    narrower n = absurd (never v.lo (f.narrowest h k (ends (v.lo +ℤ pos 1) v.hi) (λ c r. clash_ℤ n (in_order (f.holds c r)))).low)

-- ---- an upper end from a lower end
pub upper_of : {P Q : Fraction → Type 0} {k : ℤ} → ((c : Fraction) → P c → Q (opposite c)) → ((c : Fraction) → Q c → P (opposite c)) → Lower Q k →
    Lower (λ c. P (opposite c)) k
upper_of f g = lower_of g (λ c p. rw (opposite_opposite c) at (f (opposite c) p))

-- where the result changes its sign with the left operand: the lower end for −x and y
pub upper_left : (R : Operation) → ((a b c : Fraction) → R a b c → R (opposite a) b (opposite c)) → (x y : Interval) {k : ℤ} →
    Lower (Result R (negated x) y) k → Lower (λ c. Result R x y (opposite c)) k
upper_left R turn x y = upper_of (turned x) (λ c r. rw (negated_negated x) at (turned (negated x) c r))
  where
    turned : (x : Interval) (c : Fraction) → Result R x y c → Result R (negated x) y (opposite c)
    turned x c r = result (inside_negated r.left_in) r.right_in (turn r.left r.right c r.exact)
