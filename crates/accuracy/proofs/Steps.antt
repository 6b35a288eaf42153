-- One step of elimination on exact rows: two rows change places, and the rows below the pivot's are reduced. Weights meet the rows after it
-- exactly if they meet the rows before it.
use mathlib.Core.Path.{◌≡◌, refl, subst}
use mathlib.Core.Bool.{cond}
use mathlib.Core.Logic.{◌↔◌}
use Prim.Native.Nat.{ℕ, ◌+◌, ◌≤◌, ◌<◌, min}
use native.Mathlib.Omega.{arith}
use native.Mathlib.Decide.{ℕ_discrete, dec_lt}
use borrow.Author.Tests.{lt-ltb, le-ltb}
use lib.Dec.{ltb}
use lib.IntN.{ℤ, pos, ◌*ℤ◌}
use lib.Signed.{◌<ℤ◌}
use Rattle.accuracy.proofs.Row.{Row, Met, reduce, met_reduced, met_unreduced}

-- ---- which row stands at l once the rows k and p have changed places
at_by : (k p l : ℕ) → Dec (l ≡ k) → Dec (l ≡ p) → ℕ
at_by k p l (yes e) d = p
at_by k p l (no e) (yes f) = k
at_by k p l (no e) (no f) = l

pub row_at : (k p l : ℕ) → ℕ
row_at k p l = at_by k p l (ℕ_discrete l k) (ℕ_discrete l p)

record Exchange (k p l m : ℕ) : Type 0 where
  back : row_at k p m ≡ l
  low : min m k ≡ min l k
  inside : (n : ℕ) → k < n → p < n → l < n → m < n

exchange : (k p l : ℕ) → k ≤ p → Exchange k p l (row_at k p l)
unfolding row_at at_by
exchange k p l h = go (ℕ_discrete l k) (ℕ_discrete l p)
  where
    at_p : (d : Dec (p ≡ k)) (f : Dec (p ≡ p)) → at_by k p p d f ≡ k
    at_p (yes e) f = e
    at_p (no e) (yes f) = refl
    at_p (no e) (no f) = absurd (f refl)

    at_k : (d : Dec (k ≡ k)) (f : Dec (k ≡ p)) → at_by k p k d f ≡ p
    at_k (yes e) f = refl
    at_k (no e) f = absurd (e refl)

    other : (l ≡ k → ⊥) → (l ≡ p → ⊥) → (d : Dec (l ≡ k)) (f : Dec (l ≡ p)) → at_by k p l d f ≡ l
    other a b (yes e) f = absurd (a e)
    other a b (no e) (yes f) = absurd (b f)
    other a b (no e) (no f) = refl

    go : (d : Dec (l ≡ k)) (f : Dec (l ≡ p)) → Exchange k p l (at_by k p l d f)
    go (yes e) f = rw e (record { back = at_p (ℕ_discrete p k) (ℕ_discrete p p); low = omega arith; inside = λ n a b c. b })
    go (no e) (yes f) = rw f (record { back = at_k (ℕ_discrete k k) (ℕ_discrete k p); low = omega arith; inside = λ n a b c. a })
    go (no e) (no f) = record { back = other e f (ℕ_discrete l k) (ℕ_discrete l p); low = refl; inside = λ n a b c. c }

-- by which of the two it is
pub row_at_cases : (P : ℕ → ℕ → Type 0) (k p l : ℕ) → (l ≡ k → P l p) → (l ≡ p → P l k) → ((l ≡ k → ⊥) → (l ≡ p → ⊥) → P l l) → P l (row_at k p l)
unfolding row_at at_by
row_at_cases P k p l a b c = go (ℕ_discrete l k) (ℕ_discrete l p)
  where
    go : (d : Dec (l ≡ k)) (f : Dec (l ≡ p)) → P l (at_by k p l d f)
    go (yes e) f = a e
    go (no e) (yes f) = b f
    go (no e) (no f) = c e f

-- row l, if the rows below row k are reduced by it
pub reduced_at : (k : ℕ) → (ℕ → Row) → ℕ → Row
reduced_at k Q l = cond (ltb k l) (reduce k (Q k) (Q l)) (Q l)

module _ (k : ℕ) (Q : ℕ → Row) (l : ℕ) where
  pub reduced_below : k < l → reduced_at k Q l ≡ reduce k (Q k) (Q l)
  unfolding reduced_at
  reduced_below h = rw (lt-ltb k l h)

  pub reduced_above : l ≤ k → reduced_at k Q l ≡ Q l
  unfolding reduced_at
  reduced_above h = rw (le-ltb k l h)

-- ---- the weights
module _ (n : ℕ) (w : ℕ → ℤ) (q : ℤ) where
  -- after k steps a row begins at its diagonal or, below the last pivot, at column k
  abbrev pub MetAt : ℕ → (ℕ → Row) → Type 0
  MetAt k Q = (l : ℕ) → l < n → Met n (min l k) (Q l) w q

  pub met_exchanged : (k p : ℕ) → k ≤ p → p < n → (Q : ℕ → Row) → MetAt k Q ↔ MetAt k (λ l. Q (row_at k p l))
  met_exchanged k p h b Q = (
    (λ m l a. let x = exchange k p l h in subst (λ s. Met n s (Q (row_at k p l)) w q) x.low (m (row_at k p l) (x.inside n (omega arith) b a))),
    (λ m l a.
        let x = exchange k p l h in
        subst (λ s. Met n s (Q l) w q) x.low (subst (λ i. Met n (min (row_at k p l) k) (Q i) w q) x.back (m (row_at k p l) (x.inside n (omega arith) b a)))),
  )

  pub met_from : {r : Row} {s s' : ℕ} → s ≡ s' → Met n s r w q → Met n s' r w q
  met_from {r} e m = subst (λ s. Met n s r w q) e m

  pub met_step : (k : ℕ) → k < n → (Q : ℕ → Row) → pos 0 <ℤ ((Q k).left k *ℤ (Q k).left k) → MetAt k Q ↔ MetAt (k + 1) (reduced_at k Q)
  met_step k b Q above = (there, back)
    where
      there : MetAt k Q → MetAt (k + 1) (reduced_at k Q)
      there m l h = go (dec_lt k l)
        where
          go : Dec (k < l) → Met n (min l (k + 1)) (reduced_at k Q l) w q
          go (yes f) = rw (reduced_below k Q l f) (met_from (omega arith) (met_reduced (met_from (omega arith) (m k b)) (met_from (omega arith) (m l h))))
          go (no f) = rw (reduced_above k Q l (omega (arith, f))) (met_from (omega (arith, f)) (m l h))

      back : MetAt (k + 1) (reduced_at k Q) → MetAt k Q
      back m l h = go (dec_lt k l)
        where
          pivot : Met n k (Q k) w q
          pivot = met_from (omega arith) (rw (reduced_above k Q k (omega arith)) at (m k b))

          go : Dec (k < l) → Met n (min l k) (Q l) w q
          go (yes f) = met_from (omega arith) (met_unreduced pivot b above (met_from (omega arith) (rw (reduced_below k Q l f) at (m l h))))
          go (no f) = met_from (omega (arith, f)) (rw (reduced_above k Q l (omega (arith, f))) at (m l h))
