-- Sums that are worked out afresh for every row, and kept sums that are renewed for one new component, are fresh.
use mathlib.Core.Path.{◌≡◌, refl, sym, ap, ◌∙◌}
use mathlib.Core.Logic.{◌≢◌, ◌⊎◌, inl, inr}
use mathlib.Core.Bool.{Bool, true, false, not}
use mathlib.Core.List.{List}
use Prim.Native.Nat.{ℕ, zero, suc, ◌+◌, ◌*◌, ◌≤◌, ◌<◌}
use native.Mathlib.Omega.{arith}
use native.Mathlib.Decide.{ℕ_discrete, dec_lt}
use lib.IntN.{ℤ}
use lib.ListN.{length}
use Rattle.outcome.specs.Run.{Run, done}
use Rattle.interval.specs.declared.Interval.{Interval}
use Rattle.inputs.specs.Place.{at, put, cell}
use Rattle.inputs.specs.Code.{Sound}
use Rattle.inputs.specs.System.{System}
use Rattle.kept_sums.specs.Kept.{sum_at, put_sum}
use Rattle.kept_sums.proofs.Kept.{length_put_sum}
use Rattle.half_rows.specs.Rows.{first, beside, side, exchanged, renew, sides}
use Rattle.half_rows_afresh.proofs.Sums.{Reads, Unread, side_exchanged}
use Rattle.half_rows_afresh.proofs.Kept.{Kept, AllKept, kept_put_same, kept_put_other, kept_unread}

module _ (back : Bool) (s : System) (X : List ℤ) (few : s.size ≤ 32) (a : Sound s.matrix) (b : Sound X) where
  -- ---- worked out
  sides_from : (d i : ℕ) (K : List ℤ) → i + d ≡ s.size → length K ≡ 4 * s.size → ((j : ℕ) → j < i → Kept back s X K j) → AllKept back s X (sides back s X d i K)
  unfolding sides
  sides_from zero i K h l k = record { long = l; each = λ j g. k j (omega arith) }
  sides_from (suc d) i K h l k = sides_from d (i + 1) (put_sum K i v) (omega arith) (length_put_sum K i v ∙ l) (λ j g. go j g (ℕ_discrete j i))
    where
      v : Interval
      v = side back s X i

      go : (j : ℕ) → j < i + 1 → Dec (j ≡ i) → Kept back s X (put_sum K i v) j
      go j g (yes e) = rw e (kept_put_same back s X K i refl few a b l (omega arith))
      go j g (no e) = kept_put_other back s X K i j v e (k j (omega (arith, e)))

  pub sides_kept : (K : List ℤ) → length K ≡ 4 * s.size → AllKept back s X (sides back s X s.size 0 K)
  sides_kept K l = sides_from s.size 0 K (omega arith) l (λ j g. absurd (omega arith))

-- ---- renewed, for the new component v
pub record Renewed (back : Bool) (s : System) (X : List ℤ) (r : Run (List ℤ)) : Type 0 where
  pub sums : List ℤ
  pub is : r ≡ done sums
  pub kept : AllKept back s X sums

module _ (back : Bool) (s : System) (X : List ℤ) (v : ℕ) (w : Interval) (few : s.size ≤ 32) (room : 2 * v + 1 < length X)
    (a : Sound s.matrix) (b : Sound (put X v w)) where
  renew_rows : (d i : ℕ) (K : List ℤ) → i + d ≤ s.size → length K ≡ 4 * s.size
      → ((j : ℕ) → i ≤ j → j < i + d → Reads back s.size j v × Kept back s X K j)
      → ((j : ℕ) → j < s.size → (j < i) ⊎ (i + d ≤ j) → Kept back s (put X v w) K j)
      → Renewed back s (put X v w) (renew s v (at X v) w d i K)
  unfolding renew
  renew_rows zero i K h l k f = record { sums = K; is = refl; kept = record { long = l; each = λ j g. f j g (go j (dec_lt j i)) } }
    where
      go : (j : ℕ) → Dec (j < i) → (j < i) ⊎ (i + 0 ≤ j)
      go j (yes e) = inl e
      go j (no e) = inr (omega (arith, e))
  renew_rows (suc d) i K h l k f =
      rw (a.each (cell s.size i v), (k i (omega arith) (omega arith)).1.ready)
      (renew_rows d (i + 1) (put_sum K i u) (omega arith) (length_put_sum K i u ∙ l)
      (λ j p q. let m = k j (omega arith) (omega arith) in (m.0, kept_put_other back s X K i j u (omega arith) m.1))
      (λ j g p. go j g p (ℕ_discrete j i)))
    where
      u : Interval
      u = exchanged (at s.matrix (cell s.size i v)) (at X v) w (sum_at K i)

      is_new : u ≡ side back s (put X v w) i
      is_new =
          let m = k i (omega arith) (omega arith) in
          ap (exchanged (at s.matrix (cell s.size i v)) (at X v) w) m.1.is ∙ sym (side_exchanged s X i v w back room m.0)

      outside : (j : ℕ) → j ≢ i → (j < i + 1) ⊎ (i + 1 + d ≤ j) → (j < i) ⊎ (i + suc d ≤ j)
      outside j e (inl p) = inl (omega (arith, e, p))
      outside j e (inr p) = inr (omega arith)

      go : (j : ℕ) → j < s.size → (j < i + 1) ⊎ (i + 1 + d ≤ j) → Dec (j ≡ i) → Kept back s (put X v w) (put_sum K i u) j
      go j g p (yes e) = rw e (kept_put_same back s (put X v w) K i is_new few a b l (omega arith))
      go j g p (no e) = kept_put_other back s (put X v w) K i j u e (f j g (outside j e p))

-- ---- the rows that the half pass now due passes before v: of no other does its kept sum read v
module _ (n v : ℕ) (h : v < n) where
  rows_few : (back : Bool) → first back v + beside back n v ≤ n
  unfolding first beside
  rows_few true = omega arith
  rows_few false = omega arith

  module _ (j : ℕ) where
    rows_read : (back : Bool) → first back v ≤ j → j < first back v + beside back n v → Reads (not back) n j v
    unfolding first beside
    rows_read true p q = omega arith
    rows_read false p q = (omega arith, h)

    rows_unread : (back : Bool) → j < n → (j < first back v) ⊎ (first back v + beside back n v ≤ j) → Unread (not back) j v
    unfolding first beside
    rows_unread true g (inl p) = omega arith
    rows_unread true g (inr p) = absurd (omega arith)
    rows_unread false g (inl p) = absurd (omega arith)
    rows_unread false g (inr p) = omega arith

pub renew_kept : (back : Bool) (s : System) (X K : List ℤ) (v : ℕ) (w : Interval) → s.size ≤ 32 → v < s.size → length X ≡ 2 * s.size
    → Sound s.matrix → Sound (put X v w) → AllKept (not back) s X K
    → Renewed (not back) s (put X v w) (renew s v (at X v) w (beside back s.size v) (first back v) K)
renew_kept back s X K v w few h l a b k =
    let f = rows_few s.size v h back in
    renew_rows (not back) s X v w few (omega arith) a b _ _ K f k.long
    (λ j p q. (rows_read s.size v h j back p q, k.each j (omega arith)))
    (λ j g p. kept_unread (not back) s X K j v w (rows_unread s.size v h j back g p) (k.each j g))
