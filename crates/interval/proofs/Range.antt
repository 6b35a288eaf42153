-- What the tests on an interval say of its ends, and that the machine holds the sums and products of acceptable intervals.
use mathlib.Core.Path.{◌≡◌, refl, sym, subst, ◌∙◌}
use mathlib.Core.Bool.{Bool, true, false, ◌&&◌, ◌||◌}
use mathlib.Core.Logic.{◌⊎◌, inl, inr, ⊎_elim}
use native.Mathlib.Omega.{arith}
use lib.Dec.{T}
use lib.IntN.{ℤ, pos, negsuc, neg_ℤ, ◌+ℤ◌, ◌-ℤ◌, ◌*ℤ◌}
use lib.Signed.{◌≤ℤ◌, ◌<ℤ◌, lt_z, le_z, le_z_yes, lt_z_yes, clash_ℤ}
use mir.Syntax.{w64}
use mir.Val.{SFits, to_z, of_z}
use mir.ValLaws.{to_z-of_z}
use Rattle.integer.specs.Extremes.{maximum}
use Rattle.integer.proofs.Linear.{linear, over}
use Rattle.integer.proofs.Order.{also, prod, lt_le, taken, left, le_taken, le_left, yes_le, turn_le}
use Rattle.integer.proofs.Machine.{fits64, op_safe, op_read}
use Rattle.interval.specs.declared.Interval.{Interval}
use Rattle.interval.specs.Interval.{scale, lowest, highest, within, in_range, acceptable, contains_zero, exact_sum, exact_difference}
use Rattle.interval.specs.Code.{Representable, GreatestWith, negated}

pub and_both : (a b : Bool) → (a && b) ≡ true → (a ≡ true) × (b ≡ true)
and_both true b e = (refl, e)
and_both false b e = absurd (subst T (sym e) tt)

pub or_neither : (a b : Bool) → (a || b) ≡ false → (a ≡ false) × (b ≡ false)
or_neither true b e = absurd (subst T e tt)
or_neither false b e = (refl, e)

-- a number in the range
pub record Within (z : ℤ) : Type 0 where
  pub low : lowest ≤ℤ z
  pub high : z ≤ℤ highest

pub is_within : (z : ℤ) → within z ≡ true → Within z
unfolding within
is_within z e =
    let b = and_both (le_z lowest z) (le_z z highest) e in
    record { low = le_taken lowest z b.0; high = le_taken z highest b.1 }

-- an interval that is acceptable
pub record Sound (v : Interval) : Type 0 where
  pub order : v.lo ≤ℤ v.hi
  pub lo_in : Within v.lo
  pub hi_in : Within v.hi

pub is_sound : (v : Interval) → acceptable v ≡ true → Sound v
unfolding acceptable in_range
is_sound v e =
    let b = and_both (le_z v.lo v.hi) (in_range v) e in
    let r = and_both (within v.lo) (within v.hi) b.1 in
    record { order = le_taken v.lo v.hi b.0; lo_in = is_within v.lo r.0; hi_in = is_within v.hi r.1 }

within_yes : (z : ℤ) → Within z → within z ≡ true
unfolding within
within_yes z h = rw (yes_le lowest z h.low) (yes_le z highest h.high)

pub sound_accepted : (v : Interval) → Sound v → acceptable v ≡ true
unfolding acceptable in_range
sound_accepted v h = rw (yes_le v.lo v.hi h.order, within_yes v.lo h.lo_in) (within_yes v.hi h.hi_in)

-- ends in sequence and in the range
pub accept : (v : Interval) → v.lo ≤ℤ v.hi → in_range v ≡ true → acceptable v ≡ true
unfolding acceptable
accept v h e = rw (yes_le v.lo v.hi h, e)

-- what the range test makes of its two halves
pub range_rest : (v : Interval) → within v.lo ≡ true → within v.hi ≡ in_range v
unfolding in_range
range_rest v e = rw e

pub range_no : (v : Interval) → within v.lo ≡ false → false ≡ in_range v
unfolding in_range
range_no v e = rw e

-- ---- what fits an i64
pub sum_fits : {a b : ℤ} → Within a → Within b → SFits w64 (a +ℤ b)
unfolding lowest highest
sum_fits {a} {b} h k = go a b h.low h.high k.low k.high
  where
    go : (a b : ℤ) → negsuc 1999999999 ≤ℤ a → a ≤ℤ pos 2000000000 → negsuc 1999999999 ≤ℤ b → b ≤ℤ pos 2000000000 → SFits w64 (a +ℤ b)
    go = over 2 _ (λ ρ. simp (fits64, linear, ρ) (omega arith))

pub difference_fits : {a b : ℤ} → Within a → Within b → SFits w64 (a -ℤ b)
unfolding lowest highest
difference_fits {a} {b} h k = go a b h.low h.high k.low k.high
  where
    go : (a b : ℤ) → negsuc 1999999999 ≤ℤ a → a ≤ℤ pos 2000000000 → negsuc 1999999999 ≤ℤ b → b ≤ℤ pos 2000000000 → SFits w64 (a -ℤ b)
    go = over 2 _ (λ ρ. simp (fits64, linear, ρ) (omega arith))

pub turn_fits : {z : ℤ} → Within z → SFits w64 (pos 0 -ℤ z)
unfolding lowest highest
turn_fits {z} h = go z h.low h.high
  where
    go : (z : ℤ) → negsuc 1999999999 ≤ℤ z → z ≤ℤ pos 2000000000 → SFits w64 (pos 0 -ℤ z)
    go = over 1 _ (λ ρ. simp (fits64, linear, ρ) (omega arith))

pub product_fits : {a b : ℤ} → Within a → Within b → SFits w64 (a *ℤ b)
unfolding lowest highest
product_fits {a} {b} h k = go a b h.low h.high k.low k.high
  where
    go : (a b : ℤ) → negsuc 1999999999 ≤ℤ a → a ≤ℤ pos 2000000000 → negsuc 1999999999 ≤ℤ b → b ≤ℤ pos 2000000000 → SFits w64 (a *ℤ b)
    go = over 2 _ (λ ρ h₁ h₂ k₁ k₂. also (prod h₁ k₁) (also (prod h₁ k₂) (also (prod h₂ k₁) (also (prod h₂ k₂) (simp (fits64, linear, ρ) (omega arith))))))

pub within_fits : {z : ℤ} → Within z → SFits w64 z
unfolding lowest highest
within_fits {z} h = go z h.low h.high
  where
    go : (z : ℤ) → negsuc 1999999999 ≤ℤ z → z ≤ℤ pos 2000000000 → SFits w64 z
    go = over 1 _ (λ ρ. simp (fits64, linear, ρ) (omega arith))

-- ---- an end, as the code has it
module _ {z : ℤ} (h : Within z) where
  pub read : to_z w64 (of_z w64 z) ≡ z
  read = to_z-of_z w64 z (within_fits h)

  -- what its sign tests say
  pub negative_taken : lt_z (to_z w64 (of_z w64 z)) (pos 0) ≡ true → z ≤ℤ pos 0
  negative_taken e = lt_le (taken _ _ (rw read at e))

  pub negative_left : lt_z (to_z w64 (of_z w64 z)) (pos 0) ≡ false → pos 0 ≤ℤ z
  negative_left e = left _ _ (rw read at e)

  pub above_taken : le_z (pos 0) (to_z w64 (of_z w64 z)) ≡ true → pos 0 ≤ℤ z
  above_taken e = le_taken _ _ (rw read at e)

  pub above_left : le_z (pos 0) (to_z w64 (of_z w64 z)) ≡ false → z ≤ℤ pos 0
  above_left e = lt_le (le_left _ _ (rw read at e))

  pub below_taken : le_z (to_z w64 (of_z w64 z)) (pos 0) ≡ true → z ≤ℤ pos 0
  below_taken e = le_taken _ _ (rw read at e)

  pub below_left : le_z (to_z w64 (of_z w64 z)) (pos 0) ≡ false → pos 0 ≤ℤ z
  below_left e = lt_le (le_left _ _ (rw read at e))

-- a product of two ends
module _ {a b : ℤ} (h : Within a) (k : Within b) where
  pub product_safe : SFits w64 (to_z w64 (of_z w64 a) *ℤ to_z w64 (of_z w64 b))
  product_safe = op_safe ◌*ℤ◌ a b (within_fits h) (within_fits k) (product_fits h k)

  pub product_read : to_z w64 (of_z w64 (to_z w64 (of_z w64 a) *ℤ to_z w64 (of_z w64 b))) ≡ a *ℤ b
  product_read = op_read ◌*ℤ◌ a b (within_fits h) (within_fits k) (product_fits h k)

-- the end that was chosen for a product with z
module _ {a b z e : ℤ} (h : Within a) (k : Within b) (l : Within z) (g : GreatestWith (to_z w64 (of_z w64 a)) (to_z w64 (of_z w64 b)) (to_z w64 (of_z w64 z)) e) where
  chosen : GreatestWith a b z e
  chosen = rw (read h, read k, read l) at g

  chosen_within : Within e
  chosen_within = ⊎_elim (λ (p : e ≡ a). subst Within (sym p) h) (λ (p : e ≡ b). subst Within (sym p) k) chosen.one

  pub chosen_safe : SFits w64 (to_z w64 (of_z w64 e) *ℤ to_z w64 (of_z w64 z))
  chosen_safe = product_safe chosen_within l

  pub chosen_read : to_z w64 (of_z w64 (to_z w64 (of_z w64 e) *ℤ to_z w64 (of_z w64 z))) ≡ maximum (a *ℤ z) (b *ℤ z)
  chosen_read = product_read chosen_within l ∙ chosen.is

pub scale_above : pos 0 <ℤ scale
unfolding scale
scale_above = lt_z_yes tt

pub scale_within : Within scale
unfolding scale lowest highest
scale_within = record { low = le_z_yes tt; high = le_z_yes tt }

-- an end in parts of a unit, as the code has it
pub scaled_read : {z : ℤ} → Within z → to_z w64 (of_z w64 (to_z w64 (of_z w64 z) *ℤ scale)) ≡ z *ℤ scale
scaled_read {z} h = rw (to_z-of_z w64 z (within_fits h)) (to_z-of_z w64 (z *ℤ scale) (product_fits h scale_within))

pub sum_representable : {x y : Interval} → Sound x → Sound y → Representable (exact_sum x y)
unfolding exact_sum
sum_representable h k = record { lo_fits = sum_fits h.lo_in k.lo_in; hi_fits = sum_fits h.hi_in k.hi_in }

pub difference_representable : {x y : Interval} → Sound x → Sound y → Representable (exact_difference x y)
unfolding exact_difference
difference_representable h k = record { lo_fits = difference_fits h.lo_in k.hi_in; hi_fits = difference_fits h.hi_in k.lo_in }

-- ---- all signs turned
pub negated_within : {z : ℤ} → Within z → Within (neg_ℤ z)
unfolding lowest highest
negated_within {z} h = record { low = low z h.high; high = high z h.low }
  where
    low : (z : ℤ) → z ≤ℤ pos 2000000000 → negsuc 1999999999 ≤ℤ neg_ℤ z
    low = over 1 _ (λ ρ. simp (linear, ρ) (omega arith))

    high : (z : ℤ) → negsuc 1999999999 ≤ℤ z → neg_ℤ z ≤ℤ pos 2000000000
    high = over 1 _ (λ ρ. simp (linear, ρ) (omega arith))

pub negated_sound : {v : Interval} → Sound v → Sound (negated v)
negated_sound h = record { order = turn_le h.order; lo_in = negated_within h.hi_in; hi_in = negated_within h.lo_in }

pub same_ends : (x y : Interval) → x.lo ≡ y.lo → x.hi ≡ y.hi → x ≡ y
same_ends x y e f = λ i. record { lo = e i; hi = f i }

-- ---- a divisor without 0: all above, or all below
pub apart : (v : Interval) → contains_zero v ≡ false → (pos 0 <ℤ v.lo) ⊎ (v.hi <ℤ pos 0)
unfolding contains_zero
apart v e = go (le_z v.lo (pos 0)) (le_z (pos 0) v.hi) refl refl e
  where
    go : (s t : Bool) → le_z v.lo (pos 0) ≡ s → le_z (pos 0) v.hi ≡ t → (s && t) ≡ false → (pos 0 <ℤ v.lo) ⊎ (v.hi <ℤ pos 0)
    go false t p q f = inl (le_left v.lo (pos 0) p)
    go true false p q f = inr (le_left (pos 0) v.hi q)
    go true true p q f = absurd (subst T f tt)

-- not above 0 at its lower end, so below it at its upper one
pub all_below : (v : Interval) → contains_zero v ≡ false → v.lo ≤ℤ pos 0 → v.hi <ℤ pos 0
all_below v e h = ⊎_elim (λ (n : pos 0 <ℤ v.lo). clash_ℤ n h) (λ n. n) (apart v e)
