-- Products of modest shares, and components that are not below 0.
use mathlib.Core.Path.{◌≡◌}
use mathlib.Core.Bool.{true, false}
use mathlib.Core.List.{List}
use Prim.Native.Nat.{ℕ, ◌+◌, ◌*◌, ◌≤◌, ◌<◌}
use native.Mathlib.Omega.{arith}
use native.Mathlib.Decide.{dec_lt}
use native.Mathlib.Nat.{zero-add}
use lib.Dec.{le→leb}
use lib.IntN.{ℤ, pos, ◌+ℤ◌, ◌*ℤ◌}
use lib.ListN.{length}
use lib.Signed.{◌≤ℤ◌, le_z, lt_z, le_z_yes}
use mir.Syntax.{w64}
use mir.Val.{SFits, to_z, of_z}
use Rattle.std.specs.List.{AllWithin, range_with_len}
use Rattle.std.proofs.lemmas.List.FromFn.{length-range_with_len, get_or-range_with_len}
use Rattle.integer.proofs.Linear.{linear, over}
use Rattle.integer.proofs.Order.{left, le_taken, trans, also, prod}
use Rattle.integer.proofs.Machine.{fits64}
use Rattle.interval.specs.declared.Interval.{Interval}
use Rattle.interval.specs.Interval.{zero as zeroInterval, lowest, highest, acceptable, exact_sum, exact_product}
use Rattle.interval.specs.Code.{Representable}
use Rattle.interval.proofs.Range.{is_sound, sound_accepted, above_taken}
use Rattle.interval.proofs.Signs.{above_least_above, above_greatest_above}
use Rattle.inputs.specs.Place.{at}
use Rattle.inputs.proofs.Place.{at_past}
use Rattle.inputs.specs.Code.{Sound}
use Rattle.rows.specs.Word.{Modest, SumModest, NoneBelow}
use Rattle.rows.proofs.Size.{acceptable_small}

-- ---- the three tests
pub modest_is : (v : Interval) → lt_z v.lo (pos 0) ≡ false → lt_z v.hi v.lo ≡ false → le_z v.hi (pos 16777216) ≡ true → Modest v
unfolding lowest highest
modest_is v a b c =
    let l = left v.lo (pos 0) a in
    let o = left v.hi v.lo b in
    let f = le_taken v.hi (pos 16777216) c in
    let m : pos 16777216 ≤ℤ pos 2000000000 = le_z_yes tt in
    let h = trans f m in
    let z : lowest ≤ℤ pos 0 = le_z_yes tt in
    let low = trans z l in
    record {
      share = sound_accepted v (record { order = o; lo_in = record { low = low; high = trans o h }; hi_in = record { low = trans low o; high = h } });
      above = l;
      few = f;
    }

-- ---- the product of a modest share with a component, and sums of such
module _ (a b : Interval) (m : Modest a) (e : acceptable b ≡ true) (o : pos 0 ≤ℤ b.lo) where
  product_modest : SumModest 1 (exact_product a b)
  unfolding exact_product
  product_modest =
      let v = is_sound a m.share in
      let w = is_sound b e in
      let s = acceptable_small b e in
      let l = above_least_above v w m.above o in
      let h = above_greatest_above v w m.above (trans o s.order) in
      let p = go a.lo b.lo m.above (trans v.order m.few) o (trans s.order s.high) in
      let q = go a.hi b.hi (trans m.above v.order) m.few (trans o s.order) s.high in
      record { lo_above = rw l p.0; lo_few = rw l p.1; hi_above = rw h q.0; hi_few = rw h q.1 }
    where
      go : (a b : ℤ) → pos 0 ≤ℤ a → a ≤ℤ pos 16777216 → pos 0 ≤ℤ b → b ≤ℤ pos 2000000000
          → (pos 0 ≤ℤ (a *ℤ b)) × ((a *ℤ b) ≤ℤ pos (1 * 33554432000000000))
      go = over 2 _ (λ ρ h₁ h₂ h₃ h₄. also (prod h₁ h₃) (also (prod h₂ h₃) (also (prod h₁ h₄) (also (prod h₂ h₄) (also h₁ (also h₂ (also h₃ (also h₄ (simp (linear, ρ) (omega arith))))))))))

  pub sum_modest : (k : ℕ) {v : Interval} → SumModest k v → SumModest (k + 1) (exact_sum v (exact_product a b))
  unfolding exact_sum
  sum_modest k {v} s =
      let u = product_modest in
      let p = go (pos k) v.lo _ s.lo_above s.lo_few u.lo_above u.lo_few in
      let q = go (pos k) v.hi _ s.hi_above s.hi_few u.hi_above u.hi_few in
      record { lo_above = p.0; lo_few = p.1; hi_above = q.0; hi_few = q.1 }
    where
      go : (k v u : ℤ) → pos 0 ≤ℤ v → v ≤ℤ (k *ℤ pos 33554432000000000) → pos 0 ≤ℤ u → u ≤ℤ pos (1 * 33554432000000000)
          → (pos 0 ≤ℤ (v +ℤ u)) × ((v +ℤ u) ≤ℤ ((k +ℤ pos 1) *ℤ pos 33554432000000000))
      go = over 3 _ (λ ρ. simp (linear, ρ) (omega arith))

pub nought_modest : SumModest 0 zeroInterval
nought_modest = record { lo_above = le_z_yes tt; lo_few = le_z_yes tt; hi_above = le_z_yes tt; hi_few = le_z_yes tt }

pub modest_fits : (k : ℕ) {v : Interval} → k ≤ 32 → SumModest k v → Representable v
modest_fits k {v} h s =
    let l : pos k ≤ℤ pos 32 = record { le = le→leb k 32 h } in
    record { lo_fits = go (pos k) v.lo l s.lo_above s.lo_few; hi_fits = go (pos k) v.hi l s.hi_above s.hi_few }
  where
    go : (k z : ℤ) → k ≤ℤ pos 32 → pos 0 ≤ℤ z → z ≤ℤ (k *ℤ pos 33554432000000000) → SFits w64 z
    go = over 2 _ (λ ρ. simp (fits64, linear, ρ) (omega arith))

pub modest_more : {j k : ℕ} {v : Interval} → j ≤ k → SumModest j v → SumModest k v
modest_more {j} {k} {v} h s =
    let l : pos j ≤ℤ pos k = record { le = le→leb j k h } in
    record { lo_above = s.lo_above; lo_few = go (pos j) (pos k) v.lo l s.lo_few; hi_above = s.hi_above; hi_few = go (pos j) (pos k) v.hi l s.hi_few }
  where
    go : (j k z : ℤ) → j ≤ℤ k → z ≤ℤ (j *ℤ pos 33554432000000000) → z ≤ℤ (k *ℤ pos 33554432000000000)
    go = over 3 _ (λ ρ. simp (linear, ρ) (omega arith))

-- ---- components that are not below 0
pub above_read : (x : List ℤ) → Sound x → (j : ℕ) → {v : Interval} → v ≡ at x j → le_z (pos 0) (to_z w64 (of_z w64 v.lo)) ≡ true → pos 0 ≤ℤ (at x j).lo
above_read x s j e h = above_taken (is_sound _ (s.each j)).lo_in (rw e at h)

pub above_all : (x : List ℤ) (n : ℕ) → length x ≡ 2 * n → AllWithin (λ (j : ℕ). pos 0 ≤ℤ (at x j).lo) (range_with_len 0 n) 0 (length (range_with_len 0 n)) → NoneBelow x
above_all x n l h = record { each = λ j. go j (dec_lt j n) }
  where
    go : (j : ℕ) → Dec (j < n) → pos 0 ≤ℤ (at x j).lo
    go j (yes k) =
        let e = get_or-range_with_len 0 n j 0 k in
        let r = h j 0 (omega arith) (rw (length-range_with_len 0 n) k) in
        rw (e, zero-add j) at r
    go j (no k) = rw (at_past x j (omega arith)) (le_z_yes tt)
