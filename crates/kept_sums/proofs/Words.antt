-- The tests of an end; a low word from the low number of an end, and back; and the two words of a wide number likewise.
use mathlib.Core.Path.{◌≡◌, refl, ap, ap₂, sym, ◌∙◌}
use mathlib.Core.Bool.{true}
use mathlib.Core.List.{List}
use Prim.Native.Nat.{ℕ, ◌+◌, ◌*◌, ◌^◌, ◌<◌}
use native.Mathlib.Omega.{arith}
use lib.Dec.{le→leb, lt→ltb}
use lib.IntN.{sub_ℕ, ℤ, pos, negsuc, nat_abs, ◌+ℤ◌, ◌-ℤ◌, ◌*ℤ◌}
use lib.ListN.{get_or, set}
use lib.Signed.{◌≤ℤ◌, ◌<ℤ◌}
use mir.Syntax.{w64}
use mir.Val.{SFits, to_z, of_z}
use mir.ValLaws.{to_z-of_z}
use Rattle.std.specs.Int.{saturate_signed}
use Rattle.std.proofs.lemmas.Int.{ints}
use Rattle.integer.specs.Rounding.{floor_div}
use Rattle.integer.proofs.Linear.{linear, over}
use Rattle.integer.proofs.Order.{le_taken}
use Rattle.integer.proofs.Rounding.{floor_unique}
use Rattle.interval.proofs.Range.{and_both}
use Rattle.wide_sum.specs.declared.Wide.{Wide}
use Rattle.wide_sum.specs.declared.WideInterval.{WideInterval}
use Rattle.wide_sum.specs.Wide.{held, held_both}
use Rattle.wide_sum.specs.Code.{Near}
use Rattle.wide_sum.proofs.Lowered.{natural_is}
use Rattle.kept_sums.specs.Kept.{base, shift, end_at, put_end, put_sum, end_ready, sum_ready}
use Rattle.kept_sums.proofs.Kept.{base_above}

-- ---- a sum whose two ends can be ends
pub both_ready : (K : List ℤ) (i : ℕ) → sum_ready K i ≡ true → (end_ready K (4 * i) ≡ true) × (end_ready K (4 * i + 2) ≡ true)
unfolding sum_ready
both_ready K i e = and_both _ _ e

-- ---- the low number and 2^63, and the low word less 2^63, as the library gives them
pub lifted_is : (x : ℤ) → SFits w64 x → {n : ℕ} → n ≡ nat_abs (to_z w64 (of_z w64 x) -ℤ negsuc 9223372036854775807) → pos n ≡ x +ℤ shift
lifted_is x f e =
    let g = rw (to_z-of_z w64 x f) at e in
    ap pos g ∙ natural_is (x -ℤ negsuc 9223372036854775807) (omega (arith, ints)) ∙ omega (arith, ints)

pub sunk_is : (n : ℕ) → n < 2 ^ 64 → saturate_signed w64 (sub_ℕ n 9223372036854775808) ≡ pos n -ℤ shift
sunk_is n h = grind (arith, ints)

-- ---- an end as a wide number
pub end_read : (K : List ℤ) (p : ℕ) → end_ready K p ≡ true → {h : ℤ} {n : ℕ} → h ≡ get_or K p (pos 0) → pos n ≡ get_or K (p + 1) (pos 0) +ℤ shift
    → (held (record { high = h; low = n }) ≡ end_at K p) × Near 8 (record { high = h; low = n })
unfolding end_ready end_at held
end_read K p r e g =
    let b = and_both _ _ r in
    rw (e, g) (refl, record { low = le_taken _ _ b.0; high = le_taken _ _ b.1 })

-- ---- and back
module _ (w : Wide) (small : w.low < 2 ^ 64) where
  first : w.high ≡ floor_div (held w) base
  unfolding held
  first =
      let l = w.low in
      let b = go w.high (pos l) (record { le = le→leb 0 l (omega arith) }) (record { lt = lt→ltb l (2 ^ 64) small }) in
      floor_unique (held w) base w.high base_above b.0 b.1
    where
      go : (h l : ℤ) → pos 0 ≤ℤ l → l <ℤ base → ((h *ℤ base) ≤ℤ (h *ℤ base +ℤ l)) × ((h *ℤ base +ℤ l) <ℤ (h *ℤ base +ℤ base))
      go = over 2 _ (λ ρ. simp (linear, ρ) (omega arith))

  second : pos w.low -ℤ shift ≡ held w -ℤ floor_div (held w) base *ℤ base -ℤ shift
  unfolding held
  second = rw (sym first) (go (w.high *ℤ base) (pos w.low) shift)
    where
      go : (a l h : ℤ) → (l -ℤ h) ≡ ((a +ℤ l) -ℤ a -ℤ h)
      go = over 3 _ (λ ρ. simp linear (omega arith))

  pub end_put : (K : List ℤ) (p : ℕ) {h l : ℤ} → h ≡ w.high → l ≡ pos w.low -ℤ shift → set (set K p h) (p + 1) l ≡ put_end K p (held w)
  unfolding put_end
  end_put K p e f = ap₂ (λ (a b : ℤ). set (set K p a) (p + 1) b) (e ∙ first) (f ∙ second)

pub put_both : (K : List ℤ) (i : ℕ) (v : WideInterval) {A B : List ℤ} → A ≡ put_end K (4 * i) (held v.lo) → B ≡ put_end A (4 * i + 2) (held v.hi) → B ≡ put_sum K i (held_both v)
unfolding put_sum held_both
put_both K i v e f = rw (sym e) f
