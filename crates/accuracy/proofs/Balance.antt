-- A balance x = B·x + b as rows of A·x = f: for a choice inside B and b there are exact rows inside I − B and b, and weights meet the one
-- exactly if they meet the other.
use mathlib.Core.Path.{◌≡◌, sym, ap, ◌∙◌}
use mathlib.Core.Logic.{◌↔◌}
use mathlib.Core.List.{List}
use Prim.Native.Nat.{ℕ, ◌<◌}
use native.Mathlib.Omega.{arith}
use native.Mathlib.Nat.{zero-add}
use lib.IntN.{ℤ, pos, ◌+ℤ◌, ◌-ℤ◌, ◌*ℤ◌}
use lib.Signed.{◌<ℤ◌}
use Rattle.integer.proofs.Linear.{reading, linear, ring, over}
use Rattle.integer.proofs.Order.{both_pos}
use Rattle.interval.specs.Interval.{scale, exact_difference}
use Rattle.fraction.specs.Fraction.{Fraction, Inside, Same, difference}
use Rattle.fraction.proofs.Inside.{same_sym, inside_same}
use Rattle.fraction.proofs.Sum.{difference_inside}
use Rattle.inputs.specs.Place.{at, cell}
use Rattle.rows.specs.Exact.{exact_row}
use Rattle.forward.specs.Run.{rhs}
use Rattle.forward.specs.Formed.{identity}
use Rattle.accuracy.proofs.Common.{ratio, cancel_same, same_trans, widen_same, own_same, Common, common}
use Rattle.accuracy.proofs.Row.{dot, Row, Holds, Met, dot_difference}
use Rattle.accuracy.proofs.Sum.{parts, sum_same}
use Rattle.accuracy.proofs.Formed.{wholes, identity_inside, dot_identity}

-- ---- one row: the shares and the constant over one denominator
module _ (n : ℕ) (coefficient : ℕ → Fraction) (constant : Fraction) where
  pub shares : Common n coefficient
  shares = common n coefficient

  abbrev pub den : ℤ
  den = shares.den *ℤ constant.den

  abbrev pub den_above : pos 0 <ℤ den
  den_above = both_pos shares.den constant.den shares.above constant.above

  abbrev pub over_den : ℕ → ℤ
  over_den j = shares.num j *ℤ constant.den

  abbrev pub delivered : ℤ
  delivered = constant.num *ℤ shares.den

  pub coefficient_same : (j : ℕ) → j < n → Same (ratio (over_den j) den den_above) (coefficient j)
  coefficient_same j h = widen_same constant.den constant.above (shares.same j h)

  pub delivered_same : Same (ratio delivered den den_above) constant
  delivered_same = own_same shares.den shares.above constant

  -- row i of I − B
  pub row_of : ℕ → Row
  row_of i = record { left = λ j. den *ℤ scale *ℤ wholes i j -ℤ pos 1 *ℤ over_den j; right = delivered; den = den }

  pub row_holds : (t B b : List ℤ) (i : ℕ) → ((j : ℕ) → j < n → at t (cell n i j) ≡ exact_difference (identity i j) (at B (cell n i j))) → at t (rhs n i) ≡ at b i →
      ((j : ℕ) → j < n → Inside (at B (cell n i j)) (coefficient j)) → Inside (at b i) constant → Holds n t i 0 (row_of i)
  unfolding row_of difference
  row_holds t B b i f g h k =
      record {
        above = den_above;
        cells = λ j u v.
            rw (f j v)
            (inside_same (record { holds = exact den scale (wholes i j) (over_den j) })
            (difference_inside (identity_inside i j) (inside_same (same_sym (coefficient_same j v)) (h j v))));
        right = rw g (inside_same (same_sym delivered_same) k);
      }
    where
      exact : (q s e c : ℤ) → ((s *ℤ e) *ℤ q -ℤ c *ℤ pos 1) *ℤ q ≡ (q *ℤ s *ℤ e -ℤ pos 1 *ℤ c) *ℤ (pos 1 *ℤ q)
      exact = over 4 _ (λ ρ. simp (linear, ρ) (omega arith))

  -- ---- the weights
  module _ (x : ℕ → Fraction) (i : ℕ) (h : i < n) where
    abbrev weights : Common n x
    weights = common n x

    abbrev side : ℤ
    side = scale *ℤ (delivered *ℤ weights.den)

    abbrev total : ℤ
    total = dot over_den weights.num n 0

    -- b(i) and the sum of all B(i,j)·x(j)
    total_same : Same (parts (side +ℤ total) den weights.den den_above weights.above) (exact_row coefficient x n 0 constant)
    total_same = sum_same coefficient_same weights.same n 0 {u = side} (zero-add n) (same_trans (record { holds = exact scale delivered weights.den den }) delivered_same)
      where
        exact : (s g q m : ℤ) → (s *ℤ (g *ℤ q)) *ℤ m ≡ g *ℤ (m *ℤ q *ℤ s)
        exact = over 4 _ (λ ρ. simp reading (ring _ _ _ tt))

    row_sum : dot (row_of i).left weights.num n 0 ≡ den *ℤ scale *ℤ weights.num i -ℤ pos 1 *ℤ total
    unfolding row_of
    row_sum =
        dot_difference (den *ℤ scale) (pos 1) (wholes i) over_den weights.num n 0 ∙
        ap (λ z. den *ℤ scale *ℤ z -ℤ pos 1 *ℤ total) (dot_identity i weights.num n 0 (omega arith) (omega arith))

    weigh : (w m q s : ℤ) → w *ℤ (m *ℤ q *ℤ s) ≡ (m *ℤ s *ℤ w) *ℤ q
    weigh = over 4 _ (λ ρ. simp reading (ring _ _ _ tt))

    -- the row in whole numbers, with the shares on their own side
    pub balance_whole : Same (x i) (exact_row coefficient x n 0 constant) → den *ℤ scale *ℤ weights.num i ≡ side +ℤ total
    balance_whole e =
        cancel_same _ _ weights.den weights.above
        (sym (weigh (weights.num i) den weights.den scale) ∙ (same_trans (weights.same i h) (same_trans e (same_sym total_same))).holds)

    to_met : Same (x i) (exact_row coefficient x n 0 constant) → Met n 0 (row_of i) (common n x).num (common n x).den
    unfolding row_of
    to_met e = record { exact = λ d l. let f : d ≡ n = omega arith in rw f (row_sum ∙ move _ _ _ (balance_whole e)) }
      where
        move : (a b c : ℤ) → a ≡ c +ℤ b → a -ℤ pos 1 *ℤ b ≡ c
        move = over 3 _ (λ ρ. simp (linear, ρ) (omega arith))

    from_met : Met n 0 (row_of i) (common n x).num (common n x).den → Same (x i) (exact_row coefficient x n 0 constant)
    unfolding row_of
    from_met m = same_trans (same_sym (weights.same i h)) (same_trans same total_same)
      where
        move : (a b c : ℤ) → a -ℤ pos 1 *ℤ b ≡ c → a ≡ c +ℤ b
        move = over 3 _ (λ ρ. simp (linear, ρ) (omega arith))

        same : Same (ratio (weights.num i) weights.den weights.above) (parts (side +ℤ total) den weights.den den_above weights.above)
        same = record { holds = weigh (weights.num i) den weights.den scale ∙ ap (λ z. z *ℤ weights.den) (move (den *ℤ scale *ℤ weights.num i) total side (sym row_sum ∙ m.exact n (zero-add n))) }

    -- row i of the balance, and row i of A·x = f
    pub balance_met : Same (x i) (exact_row coefficient x n 0 constant) ↔ Met n 0 (row_of i) (common n x).num (common n x).den
    balance_met = (to_met, from_met)
