-- The reach that a calculation ends with is one: at least each row's quotient, or the columns'.
use mathlib.Core.Path.{◌≡◌, refl}
use mathlib.Core.Bool.{Bool, true, false, cond}
use Prim.Native.Nat.{ℕ, zero, suc, ◌+◌, ◌≤◌, ◌<◌}
use native.Mathlib.Omega.{arith}
use lib.IntN.{ℤ, pos, ◌-ℤ◌, ◌*ℤ◌}
use lib.Signed.{◌≤ℤ◌, ◌<ℤ◌, ≤ℤ_refl}
use Rattle.outcome.specs.declared.Refusal.{Refusal}
use Rattle.outcome.specs.declared.Refusal.TheVariants as refusal
use Rattle.outcome.specs.Run.{refused, done}
use Rattle.outcome.proofs.Run.{never, done_same, joined}
use Rattle.integer.specs.Extremes.{maximum}
use Rattle.integer.specs.Total.{total}
use Rattle.integer.proofs.Order.{trans, lt_le, mono}
use Rattle.integer.proofs.Extremes.{le_max_left, le_max_right}
use Rattle.integer.proofs.Rounding.{ceil_high}
use Rattle.integer.proofs.Total.{first_or_later}
use Rattle.interval.specs.Interval.{scale, within}
use Rattle.interval.proofs.Range.{scale_above}
use Rattle.inputs.specs.System.{System}
use Rattle.start_box.specs.Sums.{row_sum, column_sum, all_below_one, greatest}
use Rattle.start_box.specs.Reach.{coefficients, dividend, quotient, ranged, divided, over_rows, over_columns, reach}
use Rattle.start_box.proofs.Sums.{below_each, greatest_below, greatest_each}
use Rattle.start_box.proofs.Reach.{gap_above}
use Rattle.start_box_accuracy.proofs.Contraction.{Reach, by_rows, by_columns}

-- what a test hands on
pub handed_on : {A : Type 0} (b : Bool) (x : A) (o : Refusal) {y : A} → cond b (done x) (refused o) ≡ done y → x ≡ y
handed_on true x o e = done_same e
handed_on false x o e = never e

-- ---- a quotient
ranged_same : {z q : ℤ} → ranged z ≡ done q → z ≡ q
unfolding ranged
ranged_same {z} = handed_on (within z) z (refusal.OutOfRange 0)

divided_high : (p sum : ℤ) {q : ℤ} → sum <ℤ scale → divided p sum ≡ done q → (p *ℤ scale) ≤ℤ (q *ℤ (scale -ℤ sum))
unfolding divided quotient
divided_high p sum {q} h e = let a = joined _ _ q e in go (ranged_same a.first) (ranged_same a.rest)
  where
    go : {mid : ℤ} → p ≡ mid → quotient mid sum ≡ q → (p *ℤ scale) ≤ℤ (q *ℤ (scale -ℤ sum))
    go {mid} f g = rw (f, ← g) (ceil_high (mid *ℤ scale) (scale -ℤ sum) (gap_above h))

module _ (s : System) where
  abbrev sum_of : ℕ → ℤ
  sum_of = row_sum (coefficients s) s.size

  abbrev columns : ℕ → ℤ
  columns = column_sum (coefficients s) s.size

  -- ---- the greatest over the rows
  record Over (d i : ℕ) (first r : ℤ) : Type 0 where
    begins : first ≤ℤ r
    rows : (l : ℕ) → i ≤ l → l < i + d → (dividend s l *ℤ scale) ≤ℤ (r *ℤ (scale -ℤ sum_of l))

  over_rows_lem : (d i : ℕ) (first r : ℤ) → ((l : ℕ) → i ≤ l → l < i + d → sum_of l <ℤ scale) → over_rows s d i first ≡ done r → Over d i first r
  unfolding over_rows
  over_rows_lem zero i first r below e = record { begins = rw (done_same e) (≤ℤ_refl r); rows = λ l a b. absurd (omega arith) }
  over_rows_lem (suc d) i first r below e =
      let j = joined _ _ r e in
      let b = below i (omega arith) (omega arith) in
      let o = over_rows_lem d (i + 1) (maximum first j.mid) r (λ l u v. below l (omega arith) (omega arith)) j.rest in
      record {
        begins = trans (le_max_left first j.mid) o.begins;
        rows = λ l u v.
            first_or_later (λ k. (dividend s k *ℤ scale) ≤ℤ (r *ℤ (scale -ℤ sum_of k))) i l u
            (trans (divided_high (dividend s i) (sum_of i) b j.first) (mono j.mid r (scale -ℤ sum_of i) (lt_le (gap_above b)) (trans (le_max_right first j.mid) o.begins)))
            (λ c. o.rows l c (omega arith));
      }

  pub reached : (r : ℤ) → reach s ≡ done r → Reach s.size (coefficients s) (dividend s) r
  unfolding reach over_columns
  reached r = by_row (all_below_one sum_of s.size 0) refl
    where
      by_column : (b : Bool) → all_below_one columns s.size 0 ≡ b → cond b (over_columns s) (refused refusal.Sums) ≡ done r → Reach s.size (coefficients s) (dividend s) r
      by_column true f e =
          let C = greatest columns s.size 0 (pos 0) in
          let C-below = greatest_below columns s.size 0 (pos 0) f scale_above in
          by_columns C C-below (λ j h. greatest_each columns s.size 0 (pos 0) j (omega arith) (omega arith)) (divided_high (total (dividend s) s.size 0) C C-below e)
      by_column false f e = never e

      by_row : (b : Bool) → all_below_one sum_of s.size 0 ≡ b →
          cond b (over_rows s s.size 0 (pos 0)) (cond (all_below_one columns s.size 0) (over_columns s) (refused refusal.Sums)) ≡ done r → Reach s.size (coefficients s) (dividend s) r
      by_row true f e =
          let below = below_each sum_of s.size 0 f in
          let o = over_rows_lem s.size 0 (pos 0) r below e in
          by_rows o.begins (λ i h. below i (omega arith) (omega arith)) (λ i h. o.rows i (omega arith) (omega arith))
      by_row false f e = by_column (all_below_one columns s.size 0) refl e
