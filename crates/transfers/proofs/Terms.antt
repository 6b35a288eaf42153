-- The rows of a list, and the products of their records: what they need, and how great one or two of them are.
use mathlib.Core.Path.{◌≡◌, refl}
use mathlib.Core.Bool.{Bool, true}
use mathlib.Core.List.{List}
use Prim.Native.Nat.{ℕ, zero, suc, ◌+◌, ◌-◌, ◌*◌, ◌≤◌, ◌<◌}
use native.Mathlib.Omega.{arith}
use native.Mathlib.Decide.{dec_lt}
use lib.IntN.{ℤ, pos, nat_abs, ◌+ℤ◌, ◌*ℤ◌}
use lib.ListN.{length}
use lib.Signed.{◌≤ℤ◌, le_z_yes}
use Rattle.integer.proofs.Linear.{linear, over}
use Rattle.integer.proofs.Order.{also, prod, trans}
use Rattle.interval.specs.declared.Interval.{Interval}
use Rattle.interval.specs.Interval.{zero as zeroInterval, lowest, highest, in_range, acceptable, exact_sum, exact_product, within}
use Rattle.interval.specs.Code.{Representable}
use Rattle.interval.proofs.Range.{and_both, is_within, is_sound}
use Rattle.interval.proofs.Signs.{above_least_above}
use Rattle.inputs.specs.Code.{Sound}
use Rattle.rows.specs.Word.{NoneBelow}
use Rattle.rows.proofs.Size.{Small, sum_small, exact_product_small, small_fits}
use Rattle.transfers.specs.declared.Transfer.{Transfer}
use Rattle.transfers.specs.Listing.{nth, share, is_component, transfers_of}
use Rattle.transfers.specs.Rows.{InRange, InRow, Rows, Short, Above, BothAbove, Factors, Pair, end, term, two_terms}
use Rattle.transfers.proofs.Records.{length_transfers}
use Rattle.transfers.proofs.Component.{giver}
use Rattle.transfers.proofs.RowEnd.{row_acceptable}
use Rattle.transfers.proofs.Short.{short_held, product_short, one_short, two_short}

-- ---- rows of which more or less is known
pub in_range_lem : (h : Interval) → in_range h ≡ true → InRange h
unfolding in_range
in_range_lem h e =
    let b = and_both (within h.lo) (within h.hi) e in
    record { low = (is_within _ b.0).low; high = (is_within _ b.1).high }

pub nought_range : InRange zeroInterval
unfolding lowest highest
nought_range = record { low = le_z_yes tt; high = le_z_yes tt }

-- ---- a row of a list
module _ {n : ℕ} (rs : List (List ℤ)) {ends : List ℕ} {h : Interval} (w : Rows n (transfers_of rs) ends h) where
  abbrev ts : List Transfer
  ts = transfers_of rs

  -- where row i lies
  pub record Span (i : ℕ) : Type 0 where
    pub forward : end ends i ≤ end ends (i + 1)
    pub few : end ends (i + 1) ≤ end ends i + n
    pub within : end ends (i + 1) ≤ length rs

  pub span : (i : ℕ) → i < n → Span i
  span i l = let r = w.row i l in record { forward = r.forward; few = r.few; within = omega (arith, r.within, length_transfers rs) }

  -- each record stands in one of them
  some_row : (i : ℕ) → i ≤ n → {k : ℕ} → k < end ends i → (j : ℕ) × InRow n j h (nth ts k)
  some_row zero l {k} b = let f = w.first in absurd (omega (arith, f, b))
  some_row (suc i) l {k} b = go (dec_lt k (end ends i)) (some_row i (omega arith))
    where
      e : suc i ≡ i + 1
      e = omega arith

      go : Dec (k < end ends i) → (k < end ends i → (j : ℕ) × InRow n j h (nth ts k)) → (j : ℕ) × InRow n j h (nth ts k)
      go (yes a) f = f a
      go (no a) f = (i, (w.row i (omega arith)).each k (omega (arith, a)) (rw e at b))

  own_row : {k : ℕ} → k < length rs → (j : ℕ) × InRow n j h (nth ts k)
  own_row l = some_row n (omega arith) (let f = w.last in omega (arith, f, l, length_transfers rs))

  module _ (k : ℕ) (l : k < length rs) where
    pub inside : is_component n (nth ts k).giver ≡ true
    inside = giver _ _ (own_row l).1.components

    pub proper : InRange h → acceptable (share (nth ts k)) ≡ true
    proper r = row_acceptable (own_row l).1 r

    pub above_known : {x : List ℤ} → (pos 0 ≤ℤ h.lo) × NoneBelow x → Above ts x k
    above_known b = record { share_above = trans b.0 (own_row l).1.held.low; component_above = b.1.each _ }

    -- it can be multiplied
    pub factors : {x : List ℤ} {a : Bool} → InRange h → (a ≡ true → Above ts x k) → Factors n ts x a k
    factors r o = record { inside = inside; proper = proper r; over = λ e. ((o e).share_above, (o e).component_above) }

    -- where shares are short, so is its product
    module _ {x : List ℤ} (y : Sound x) where
      pub term_short : Short h → Small 268435456000000000 (term ts x k)
      unfolding term
      term_short s = let r = (own_row l).1 in product_short _ _ (short_held s r.held) r.order (y.each _)

      -- one product more
      pub one_grown : Short h → (m : ℕ) {v : Interval} → Small (m * 268435456000000000) v → Small ((m + 1) * 268435456000000000) (exact_sum v (term ts x k))
      one_grown s m p = one_short m p (term_short s)

  -- ---- two of them together
  module _ (k : ℕ) (l : k + 1 < length rs) where
    before : k < length rs
    before = omega (arith, l)

    pub both_known : {x : List ℤ} → (pos 0 ≤ℤ h.lo) × NoneBelow x → BothAbove ts x k
    both_known b = (above_known k before b, above_known (k + 1) l b)

    pub pair : {x : List ℤ} {a : Bool} → InRange h → (a ≡ true → BothAbove ts x k) → Pair n ts x a k
    pair r o = (factors k before r (λ e. (o e).0), factors (k + 1) l r (λ e. (o e).1))

    -- two products more
    pub two_grown : {x : List ℤ} → Sound x → Short h → (m : ℕ) {v : Interval} → Small (m * 268435456000000000) v → Small ((m + 2) * 268435456000000000) (exact_sum v (two_terms ts x k))
    unfolding two_terms
    two_grown y s m p = two_short m p (term_short k before y s) (term_short (k + 1) l y s)

-- ---- a product, whatever the other records are
module _ {n : ℕ} {ts : List Transfer} {x : List ℤ} {a : Bool} {k : ℕ} (f : Factors n ts x a k) (s : Sound x) where
  pub term_small : Small 4000000000000000000 (term ts x k)
  unfolding term
  term_small = exact_product_small _ _ f.proper (s.each _)

  pub term_above : a ≡ true → (pos 0 ≤ℤ (term ts x k).lo) × (pos 0 ≤ℤ (term ts x k).hi)
  unfolding term exact_product
  term_above e =
      let o = f.over e in
      let l : pos 0 ≤ℤ (term ts x k).lo =
      rw (above_least_above (is_sound _ f.proper) (is_sound _ (s.each (nat_abs (nth ts k).giver - 1))) o.0 o.1) (go _ _ o.0 o.1) in
      (l, trans l term_small.order)
    where
      go : (a b : ℤ) → pos 0 ≤ℤ a → pos 0 ≤ℤ b → pos 0 ≤ℤ (a *ℤ b)
      go = over 2 _ (λ ρ h₁ h₂. also (prod h₁ h₂) (simp (linear, ρ) (omega arith)))

-- ---- two of them together
pub two_fit : {u v : Interval} → Small 4000000000000000000 u → Small 4000000000000000000 v → Representable (exact_sum u v)
two_fit p q = small_fits (omega arith) (sum_small p q)

pub two_above : {n : ℕ} {ts : List Transfer} {x : List ℤ} {k : ℕ} → Pair n ts x true k → Sound x → (pos 0 ≤ℤ (two_terms ts x k).lo) × (pos 0 ≤ℤ (two_terms ts x k).hi)
unfolding two_terms exact_sum
two_above p s =
    let u = term_above p.0 s refl in
    let v = term_above p.1 s refl in
    (go _ _ u.0 v.0, go _ _ u.1 v.1)
  where
    go : (a b : ℤ) → pos 0 ≤ℤ a → pos 0 ≤ℤ b → pos 0 ≤ℤ (a +ℤ b)
    go = over 2 _ (λ ρ. simp (linear, ρ) (omega arith))
