-- The reach: how large its dividends are, one turn of its loops, and that it is in the range.
use mathlib.Core.Path.{◌≡◌, refl, sym, ap, ◌∙◌}
use mathlib.Core.Bool.{Bool, true, false, cond}
use mathlib.Core.List.{List}
use Prim.Native.Nat.{ℕ, zero, suc, ◌+◌, ◌-◌, ◌*◌, ◌≤◌, ◌<◌}
use native.Mathlib.Omega.{arith}
use lib.IntN.{ℤ, pos, ◌+ℤ◌, ◌-ℤ◌, ◌*ℤ◌, zero-*ℤ}
use lib.Signed.{◌≤ℤ◌, ◌<ℤ◌}
use mir.Syntax.{w64}
use mir.Val.{SFits, to_z, of_z}
use mir.ValLaws.{to_z-of_z}
use Rattle.outcome.specs.declared.Refusal.{Refusal}
use Rattle.outcome.specs.declared.Refusal.TheVariants as refusal
use Rattle.outcome.specs.Run.{Run, refused, done, and_then}
use Rattle.outcome.proofs.Run.{never, done_same, joined}
use Rattle.integer.specs.Rounding.{ceil_div}
use Rattle.integer.specs.Total.{total}
use Rattle.integer.specs.Extremes.{maximum}
use Rattle.integer.proofs.Linear.{linear, over}
use Rattle.integer.proofs.Order.{also, prod, trans, cancel}
use Rattle.integer.proofs.Rounding.{ceil_iff, ceil_high}
use Rattle.integer.proofs.Extremes.{max_ind}
use Rattle.integer.proofs.Machine.{fits64}
use Rattle.integer.proofs.Total.{total_above}
use Rattle.integer.proofs.Summing.{Term, pos_le, term_fits, total_term_of, add_safe, add_is}
use Rattle.interval.specs.Interval.{scale, lowest, highest, within}
use Rattle.interval.proofs.Range.{scale_above}
use Rattle.inputs.specs.System.{System, system}
use Rattle.start_box.specs.Sums.{row_sum, column_sum, all_below_one}
use Rattle.start_box.specs.Reach.{coefficients, constants, dividend, quotient, ranged, divided, over_rows, over_columns, reach}
use Rattle.start_box.specs.Ready.{Square, Right}
use Rattle.start_box.proofs.Magnitude.{magnitude_term}

-- ---- a product of two magnitudes, and a row of them
product_at_most : {a b : ℤ} → Term 2000000000 a → Term 2000000000 b → Term 4000000000000000000 (a *ℤ b)
product_at_most {a} {b} h k = record { above = low a b h.above k.above; at_most = high a b h.above h.at_most k.above k.at_most }
  where
    low : (a b : ℤ) → pos 0 ≤ℤ a → pos 0 ≤ℤ b → pos 0 ≤ℤ (a *ℤ b)
    low = over 2 _ (λ ρ h k. also (prod h k) (simp (linear, ρ) (omega arith)))

    high : (a b : ℤ) → pos 0 ≤ℤ a → a ≤ℤ pos 2000000000 → pos 0 ≤ℤ b → b ≤ℤ pos 2000000000 → (a *ℤ b) ≤ℤ pos 4000000000000000000
    high = over 2 _ (λ ρ h₁ h₂ k₁ k₂. also (prod h₂ k₁) (also k₂ (also h₁ (simp (linear, ρ) (omega arith)))))

pub product_fits : {z : ℤ} → Term 4000000000000000000 z → SFits w64 z
product_fits {z} h = go z h.above h.at_most
  where
    go : (z : ℤ) → pos 0 ≤ℤ z → z ≤ℤ pos 4000000000000000000 → SFits w64 z
    go = over 1 _ (λ ρ. simp (fits64, linear, ρ) (omega arith))

rounded_term : {z : ℤ} → Term 4000000000000000000 z → Term 4000000000000 (ceil_div z scale)
unfolding scale
rounded_term {z} h =
    record {
      above = cancel (pos 0) _ scale scale_above (rw (zero-*ℤ scale) (trans h.above (ceil_high z scale scale_above)));
      at_most = (ceil_iff z (pos 1000000) (pos 4000000000000) scale_above).1 h.at_most;
    }

module _ {n : ℕ} {m r : List ℤ} (w : Square n m) (v : Right n r) where
  abbrev s : System
  s = system n m r

  module _ (i : ℕ) where
    pub coefficient_term : (j : ℕ) → Term 2000000000 (coefficients s i j)
    coefficient_term j = magnitude_term _ (w.sound.each _)

    pub product_term : (j : ℕ) → Term 4000000000000000000 (coefficients s i j *ℤ constants s j)
    product_term j = product_at_most (coefficient_term j) (magnitude_term _ (v.sound.each j))

    abbrev product : ℕ → ℤ
    product j = ceil_div (coefficients s i j *ℤ constants s j) scale

    pub rounded_product : (j : ℕ) → Term 4000000000000 (product j)
    rounded_product j = rounded_term (product_term j)

    pub row_above : pos 0 ≤ℤ row_sum (coefficients s) n i
    unfolding row_sum
    row_above = total_above _ n 0 (λ j a b. (coefficient_term j).above)

    few_entries : 2000000000 * n ≤ 1000000000000000000
    few_entries = omega (arith, w.few)

    few_products : 4000000000000 * n ≤ 1000000000000000000
    few_products = omega (arith, w.few)

    -- the sums of a row with their next terms, as the code has them: a and b are the magnitudes, z the product rounded up
    module _ (j : ℕ) (h : j < n) {a : ℤ} (e : a ≡ coefficients s i j) where
      module _ {sum : ℤ} (k : sum ≡ total (coefficients s i) j 0) where
        pub entry_safe : SFits w64 (sum +ℤ to_z w64 (of_z w64 a))
        entry_safe = add_safe (coefficients s i) 2000000000 n (λ l q. coefficient_term l) few_entries j h k e

        pub entry_next : to_z w64 (of_z w64 (sum +ℤ to_z w64 (of_z w64 a))) ≡ total (coefficients s i) (j + 1) 0
        entry_next = add_is (coefficients s i) 2000000000 n (λ l q. coefficient_term l) few_entries j h k e

      module _ {b : ℤ} (f : b ≡ constants s j) where
        times : to_z w64 (of_z w64 a) *ℤ to_z w64 (of_z w64 b) ≡ coefficients s i j *ℤ constants s j
        times = rw (e, f, to_z-of_z w64 _ (term_fits (omega arith) (coefficient_term j)), to_z-of_z w64 _ (term_fits (omega arith) (magnitude_term _ (v.sound.each j))))

        pub times_safe : SFits w64 (to_z w64 (of_z w64 a) *ℤ to_z w64 (of_z w64 b))
        times_safe = rw times (product_fits (product_term j))

        times_read : to_z w64 (of_z w64 (to_z w64 (of_z w64 a) *ℤ to_z w64 (of_z w64 b))) ≡ coefficients s i j *ℤ constants s j
        times_read = rw times (to_z-of_z w64 _ (product_fits (product_term j)))

        pub times_term : Term 4000000000000000000 (to_z w64 (of_z w64 (to_z w64 (of_z w64 a) *ℤ to_z w64 (of_z w64 b))))
        times_term = rw times_read (product_term j)

        module _ {z sum : ℤ} (g : z ≡ ceil_div (to_z w64 (of_z w64 (to_z w64 (of_z w64 a) *ℤ to_z w64 (of_z w64 b)))) scale) (k : sum ≡ total product j 0) where
          pub product_safe : SFits w64 (sum +ℤ to_z w64 (of_z w64 z))
          product_safe = add_safe product 4000000000000 n (λ l q. rounded_product l) few_products j h k (g ∙ ap (λ z. ceil_div z scale) times_read)

          pub product_next : to_z w64 (of_z w64 (sum +ℤ to_z w64 (of_z w64 z))) ≡ total product (j + 1) 0
          product_next = add_is product 4000000000000 n (λ l q. rounded_product l) few_products j h k (g ∙ ap (λ z. ceil_div z scale) times_read)

  -- a row has at most 32 products
  pub dividend_term : (i : ℕ) → Term 128000000000000 (dividend s i)
  unfolding dividend
  dividend_term i =
      let t = total_term_of _ 4000000000000 n (λ j h. rounded_product i j) n (omega arith) in
      record { above = t.above; at_most = trans t.at_most (pos_le _ _ (omega (arith, w.few))) }

  few_dividends : 128000000000000 * n ≤ 1000000000000000000
  few_dividends = omega (arith, w.few)

  -- the sum of the rows with the next one
  module _ (i : ℕ) (h : i < n) {sum z : ℤ} (e : sum ≡ total (dividend s) i 0) (f : z ≡ dividend s i) where
    pub dividend_safe : SFits w64 (sum +ℤ to_z w64 (of_z w64 z))
    dividend_safe = add_safe (dividend s) 128000000000000 n (λ l q. dividend_term l) few_dividends i h e f

    pub dividend_next : to_z w64 (of_z w64 (sum +ℤ to_z w64 (of_z w64 z))) ≡ total (dividend s) (i + 1) 0
    dividend_next = add_is (dividend s) 128000000000000 n (λ l q. dividend_term l) few_dividends i h e f

-- ---- a quotient
module _ (p sum : ℤ) where
  pub divided_out : within p ≡ false → refused (refusal.OutOfRange 0) ≡ divided p sum
  unfolding divided ranged and_then
  divided_out e = rw e

  module _ (e : within p ≡ true) where
    pub divided_high : within (quotient p sum) ≡ false → refused (refusal.OutOfRange 0) ≡ divided p sum
    unfolding divided ranged and_then
    divided_high f = rw (e, f)

    pub divided_is : within (quotient p sum) ≡ true → done (quotient p sum) ≡ divided p sum
    unfolding divided ranged and_then
    divided_is f = rw (e, f)

pub gap_fits : {s : ℤ} → pos 0 ≤ℤ s → s <ℤ scale → SFits w64 (scale -ℤ s)
unfolding scale
gap_fits {s} = go s
  where
    go : (s : ℤ) → pos 0 ≤ℤ s → s <ℤ pos 1000000 → SFits w64 (pos 1000000 -ℤ s)
    go = over 1 _ (λ ρ. simp (fits64, linear, ρ) (omega arith))

pub gap_above : {s : ℤ} → s <ℤ scale → pos 0 <ℤ (scale -ℤ s)
gap_above {s} = go scale s
  where
    go : (a s : ℤ) → s <ℤ a → pos 0 <ℤ (a -ℤ s)
    go = over 2 _ (λ ρ. simp (linear, ρ) (omega arith))

-- ---- over rows: one turn; the rows left are n − i
module _ (s : System) (i : ℕ) (first : ℤ) where
  abbrev this_row : Run ℤ
  this_row = divided (dividend s i) (row_sum (coefficients s) s.size i)

  pub rows_end : s.size ≤ i → over_rows s (s.size - i) i first ≡ done first
  unfolding over_rows
  rows_end h = let e : s.size - i ≡ 0 = omega arith in rw e

  module _ (h : i < s.size) where
    pub rows_stop : {o : Refusal} → refused o ≡ this_row → over_rows s (s.size - i) i first ≡ refused o
    unfolding over_rows and_then
    rows_stop e = let f : s.size - i ≡ suc (s.size - (i + 1)) = omega arith in rw (f, ← e)

    pub rows_go : {q : ℤ} → done q ≡ this_row → over_rows s (s.size - i) i first ≡ over_rows s (s.size - (i + 1)) (i + 1) (maximum first q)
    unfolding over_rows and_then
    rows_go e = let f : s.size - i ≡ suc (s.size - (i + 1)) = omega arith in rw (f, ← e)

-- ---- by rows, else by columns, else not at all
module _ (s : System) where
  abbrev rows_below : Bool
  rows_below = all_below_one (row_sum (coefficients s) s.size) s.size 0

  abbrev columns_below : Bool
  columns_below = all_below_one (column_sum (coefficients s) s.size) s.size 0

  pub reach_rows : rows_below ≡ true → over_rows s s.size 0 (pos 0) ≡ reach s
  unfolding reach
  reach_rows e = rw e

  module _ (e : rows_below ≡ false) where
    pub reach_columns : columns_below ≡ true → over_columns s ≡ reach s
    unfolding reach
    reach_columns f = rw (e, f)

    pub reach_none : columns_below ≡ false → refused refusal.Sums ≡ reach s
    unfolding reach
    reach_none f = rw (e, f)

-- ---- a reach is in the range
ranged_within : (z : ℤ) {q : ℤ} → ranged z ≡ done q → within q ≡ true
unfolding ranged
ranged_within z {q} e = go (within z) refl e
  where
    go : (t : Bool) → within z ≡ t → cond t (done z) (refused (refusal.OutOfRange 0)) ≡ done q → within q ≡ true
    go true f g = rw (← (done_same g)) f
    go false f g = never g

divided_within : (p sum : ℤ) {q : ℤ} → divided p sum ≡ done q → within q ≡ true
unfolding divided
divided_within p sum {q} e = ranged_within _ (joined (ranged p) _ q e).rest

rows_within : (s : System) (d i : ℕ) (first : ℤ) {q : ℤ} → within first ≡ true → over_rows s d i first ≡ done q → within q ≡ true
unfolding over_rows
rows_within s zero i first h e = rw (← (done_same e)) h
rows_within s (suc d) i first {q} h e =
    let t = joined (divided (dividend s i) (row_sum (coefficients s) s.size i)) _ q e in
    rows_within s d (i + 1) (maximum first t.mid) (max_ind first t.mid (λ m. within m ≡ true) (λ k. divided_within _ _ t.first) (λ k. h)) t.rest

nought_within : within (pos 0) ≡ true
unfolding within lowest highest
nought_within = refl

pub reach_within : (s : System) {q : ℤ} → done q ≡ reach s → within q ≡ true
unfolding reach over_columns
reach_within s {q} e = go (rows_below s) (columns_below s) (sym e)
  where
    go : (b c : Bool) → cond b (over_rows s s.size 0 (pos 0)) (cond c (over_columns s) (refused refusal.Sums)) ≡ done q → within q ≡ true
    go true c f = rows_within s s.size 0 (pos 0) nought_within f
    go false true f = divided_within _ _ f
    go false false f = never f
