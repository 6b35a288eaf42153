-- What one new component changes in the kept sums: in one product, in one row's sum, and one turn of the loop over the rows.
use mathlib.Core.Path.{◌≡◌, refl, sym, ap, ap₂, subst, ◌∙◌}
use mathlib.Core.Bool.{Bool, true, false, cond, ◌&&◌}
use mathlib.Core.List.{List}
use Prim.Native.Nat.{ℕ, suc, ◌+◌, ◌-◌, ◌≤◌, ◌<◌}
use native.Mathlib.Omega.{arith}
use lib.IntN.{ℤ, pos, neg_ℤ, ◌-ℤ◌}
use lib.ListN.{length}
use lib.Signed.{◌≤ℤ◌}
use mir.Syntax.{w64}
use mir.Val.{SFits, to_z, of_z}
use Rattle.outcome.specs.declared.Refusal.TheVariants as refusal
use Rattle.outcome.specs.declared.Refusal.{Refusal}
use Rattle.outcome.specs.Run.{Run, refused, done, and_then}
use Rattle.integer.proofs.Linear.{linear, over}
use Rattle.integer.proofs.Machine.{fits64, op_safe, op_read}
use Rattle.integer.proofs.Order.{trans}
use Rattle.interval.specs.declared.Interval.{Interval}
use Rattle.interval.specs.Interval.{ends, acceptable, exact_sum, exact_product}
use Rattle.interval.specs.Code.{Representable}
use Rattle.interval.proofs.Exchanged as factors
use Rattle.interval.proofs.Range.{same_ends}
use Rattle.inputs.specs.Place.{at, cell}
use Rattle.inputs.specs.System.{System}
use Rattle.wide_sum.specs.declared.WideInterval.{WideInterval}
use Rattle.wide_sum.specs.Wide.{held_both}
use Rattle.wide_sum.specs.Code.{AddedBoth}
use Rattle.rows.proofs.Size.{Small, exact_product_small, small_fits}
use Rattle.kept_sums.specs.Kept.{sum_at, put_sum, sum_ready}
use Rattle.kept_sums.proofs.Kept.{length_put_sum}
use Rattle.half_rows.specs.Rows.{exchanged, renew}
use Rattle.half_rows.specs.Code.{change}

-- ---- a product, and the difference of two end by end, fit an i64
abbrev most : ℕ
most = 4000000000000000000

product_small : (u a : Interval) {p : Interval} → acceptable u ≡ true → acceptable a ≡ true → p ≡ exact_product u a → Small most p
product_small u a h g e = subst (Small most) (sym e) (exact_product_small u a h g)

apart_fits : {p q : Interval} → Small most p → Small most q → Representable (ends (p.lo -ℤ q.lo) (p.hi -ℤ q.hi))
apart_fits {p} {q} m n =
    record {
      lo_fits = fit p.lo q.lo m.low (trans m.order m.high) n.low (trans n.order n.high);
      hi_fits = fit p.hi q.hi (trans m.low m.order) m.high (trans n.low n.order) n.high;
    }
  where
    fit : (x y : ℤ) → neg_ℤ (pos most) ≤ℤ x → x ≤ℤ pos most → neg_ℤ (pos most) ≤ℤ y → y ≤ℤ pos most → SFits w64 (x -ℤ y)
    fit = over 2 _ (λ ρ. simp (fits64, linear, ρ) (omega arith))

-- ---- what a product changes by: p is the new one and q the old one, with their factors exchanged, as the code has them
module _ (a old new : Interval) {p q : Interval} (h : acceptable a ≡ true) (g : (acceptable old ≡ true) × (acceptable new ≡ true)) (e : p ≡ exact_product new a) (f : q ≡ exact_product old a) where
  new_small : Small most p
  new_small = product_small new a g.1 h e

  old_small : Small most q
  old_small = product_small old a g.0 h f

  new_fits : Representable p
  new_fits = small_fits (omega arith) new_small

  old_fits : Representable q
  old_fits = small_fits (omega arith) old_small

  change_fits : Representable (ends (p.lo -ℤ q.lo) (p.hi -ℤ q.hi))
  change_fits = apart_fits new_small old_small

  pub lo_safe : SFits w64 (to_z w64 (of_z w64 p.lo) -ℤ to_z w64 (of_z w64 q.lo))
  lo_safe = op_safe ◌-ℤ◌ _ _ new_fits.lo_fits old_fits.lo_fits change_fits.lo_fits

  pub hi_safe : SFits w64 (to_z w64 (of_z w64 p.hi) -ℤ to_z w64 (of_z w64 q.hi))
  hi_safe = op_safe ◌-ℤ◌ _ _ new_fits.hi_fits old_fits.hi_fits change_fits.hi_fits

  pub change_is : ends (to_z w64 (of_z w64 (to_z w64 (of_z w64 p.lo) -ℤ to_z w64 (of_z w64 q.lo)))) (to_z w64 (of_z w64 (to_z w64 (of_z w64 p.hi) -ℤ to_z w64 (of_z w64 q.hi)))) ≡ change a old new
  unfolding change
  change_is =
      same_ends _ _ (op_read ◌-ℤ◌ _ _ new_fits.lo_fits old_fits.lo_fits change_fits.lo_fits) (op_read ◌-ℤ◌ _ _ new_fits.hi_fits old_fits.hi_fits change_fits.hi_fits)
      ∙ ap₂ (λ u v. ends (u.lo -ℤ v.lo) (u.hi -ℤ v.hi)) (e ∙ factors.exchanged a new) (f ∙ factors.exchanged a old)

-- ---- a row's sum, as it is written
pub sum_exchanged : (K : List ℤ) (i : ℕ) (old new : Interval) {a b c : Interval} {k t : WideInterval} {M : List ℤ} → b ≡ a → held_both k ≡ sum_at K i → c ≡ change b old new → AddedBoth k c t → M ≡ put_sum K i (held_both t)
    → M ≡ put_sum K i (exchanged a old new (sum_at K i))
unfolding exchanged change
sum_exchanged K i old new p q r s x = x ∙ ap (put_sum K i) (s.is ∙ ap₂ exact_sum q (r ∙ ap (λ u. change u old new) p))

-- ---- row i
module _ (s : System) (v : ℕ) (old new : Interval) (i : ℕ) (K : List ℤ) where
  abbrev share : Interval
  share = at s.matrix (cell s.size i v)

  -- the sums, with row i's renewed
  abbrev renewed : List ℤ
  renewed = put_sum K i (exchanged share old new (sum_at K i))

  -- they stay as many, renewed or not
  pub row_length : (b : Bool) {M : List ℤ} → M ≡ cond b renewed K → length M ≡ length K
  row_length true e = ap length e ∙ length_put_sum K i _
  row_length false e = ap length e

  -- a is the share, as it is read
  module _ {a : Interval} (p : a ≡ share) where
    pub row_ill : acceptable a ≡ false → refused refusal.NotDue ≡ renew s v old new 1 i K
    unfolding renew
    row_ill e = rw (← p, e)

    module _ (e : acceptable a ≡ true) where
      pub row_unready : sum_ready K i ≡ false → refused refusal.NotDue ≡ renew s v old new 1 i K
      unfolding renew
      row_unready f = rw (← p, e, f)

      pub row_done : {M : List ℤ} → sum_ready K i ≡ true → M ≡ renewed → done M ≡ renew s v old new 1 i K
      unfolding renew
      row_done f g = rw (g, ← p, e, f)

  -- and the rows after it
  row_first : (d : ℕ) → renew s v old new (suc d) i K ≡ and_then (renew s v old new 1 i K) (λ (M : List ℤ). renew s v old new d (i + 1) M)
  unfolding renew and_then
  row_first d = go (acceptable share && sum_ready K i) _ _
    where
      go : (b : Bool) (M : List ℤ) (f : List ℤ → Run (List ℤ)) → cond b (f M) (refused refusal.NotDue) ≡ and_then (cond b (done M) (refused refusal.NotDue)) f
      go true M f = refl
      go false M f = refl

  -- the rows end before row e
  module _ (e : ℕ) where
    abbrev from_here : Run (List ℤ)
    from_here = renew s v old new (e - i) i K

    pub renew_end : e ≤ i → done K ≡ from_here
    unfolding renew
    renew_end h = let f : e - i ≡ 0 = omega arith in rw f

    module _ (h : i < e) where
      goes : from_here ≡ and_then (renew s v old new 1 i K) (λ (M : List ℤ). renew s v old new (e - (i + 1)) (i + 1) M)
      goes = let f : e - i ≡ suc (e - (i + 1)) = omega arith in rw f (row_first (e - (i + 1)))

      pub renew_out : {o : Refusal} → refused o ≡ renew s v old new 1 i K → refused o ≡ from_here
      unfolding and_then
      renew_out q = rw (← q) at (sym goes)

      pub renew_turn : {M : List ℤ} → done M ≡ renew s v old new 1 i K → from_here ≡ renew s v old new (e - (i + 1)) (i + 1) M
      unfolding and_then
      renew_turn q = rw (← q) at goes
