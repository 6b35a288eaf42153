-- What stands where in the square of a list: at each record's position its interval, and nought at every other.
use mathlib.Core.Path.{◌≡◌, refl, ◌∙◌}
use mathlib.Core.Bool.{true}
use mathlib.Core.Logic.{◌≢◌}
use mathlib.Core.List.{List}
use Prim.Native.Nat.{ℕ, zero, suc, ◌+◌, ◌-◌, ◌*◌, ◌<◌}
use native.Mathlib.Omega.{arith}
use native.Mathlib.Nat.{zero-add}
use lib.IntN.{ℤ, pos}
use lib.ListN.{length, replicate, length-replicate}
use Rattle.interval.specs.Interval.{zero as zeroInterval}
use Rattle.interval.proofs.Range.{same_ends}
use Rattle.std.specs.Prelude.{Ok}
use Rattle.inputs.specs.Place.{at, put}
use Rattle.inputs.proofs.Tests.{both_pass}
use Rattle.inputs.proofs.Place.{length_put, at_put_same, at_put_other}
use Rattle.transfers.specs.declared.Transfer.{Transfer}
use Rattle.transfers.specs.Listing.{nth, share, both_components, entries, place_of, filled, square}
use Rattle.transfers.proofs.Tried.{tried_each}
use Rattle.transfers.proofs.Order.{place_rises}
use Rattle.transfers.proofs.Square.{place_below, noughts}

module _ (n : ℕ) (ts : List Transfer) where
  abbrev P : ℕ → ℕ
  P k = place_of n (nth ts k)

  -- ---- the records k, k + 1, .., d of them, put into m
  at_other : (d k : ℕ) (m : List ℤ) (p : ℕ) → ((j : ℕ) → j < d → p ≢ P (k + j)) → at (filled n ts d k m) p ≡ at m p
  unfolding filled
  at_other zero k m p h = refl
  at_other (suc d) k m p h =
      let e : k + 0 ≡ k = omega arith in
      at_other d (k + 1) (put m (P k) (share (nth ts k))) p (λ j l. let f : k + suc j ≡ k + 1 + j = omega arith in rw f at (h (suc j) (omega arith)))
      ∙ at_put_other m (P k) p (share (nth ts k)) (rw e at (h 0 (omega arith)))

  at_own : (d k : ℕ) (m : List ℤ) (j : ℕ) → j < d → 2 * P (k + j) + 1 < length m → ((i : ℕ) → j < i → i < d → P (k + j) ≢ P (k + i))
      → at (filled n ts d k m) (P (k + j)) ≡ share (nth ts (k + j))
  unfolding filled
  at_own zero k m j h l f = absurd (omega arith)
  at_own (suc d) k m zero h l f =
      let e : k + 0 ≡ k = omega arith in
      rw e
      (at_other d (k + 1) (put m (P k) (share (nth ts k))) (P k) (λ i b. let g : k + suc i ≡ k + 1 + i = omega arith in rw (e, g) at (f (suc i) (omega arith) (omega arith)))
      ∙ at_put_same m (P k) (share (nth ts k)) (rw e at l))
  at_own (suc d) k m (suc j) h l f =
      let e : k + suc j ≡ k + 1 + j = omega arith in
      rw e
      (at_own d (k + 1) (put m (P k) (share (nth ts k))) j (omega arith) (rw (length_put m (P k) (share (nth ts k))) (rw e at l))
      (λ i b c. let g : k + suc i ≡ k + 1 + i = omega arith in rw (e, g) at (f (suc i) (omega arith) (omega arith))))

  -- a place of no record
  pub no_place : (p : ℕ) → ((j : ℕ) → j < length ts → p ≢ P j) → at (square n ts) p ≡ zeroInterval
  unfolding square at
  no_place p none =
      at_other (length ts) 0 (replicate (2 * (n * n)) (pos 0)) p (λ j h e. none j h (rw (zero-add j) at e))
      ∙ same_ends _ _ (noughts (2 * (n * n)) (2 * p)) (noughts (2 * (n * n)) (2 * p + 1))

  -- ---- a list that passes 11 and 12
  module _ (passes : entries n ts ≡ Ok tt) where
    pub components : (k : ℕ) → k < length ts → both_components n (nth ts k) ≡ true
    unfolding entries
    components k h = rw (zero-add k) at (tried_each _ _ (length ts) 0 (both_pass _ _ passes).0 k h)

    next : (k : ℕ) → k + 1 < length ts → P k < P (k + 1)
    unfolding entries
    next k h =
        let e : 1 + k ≡ k + 1 = omega arith in
        let f : k + 1 - 1 ≡ k = omega arith in
        place_rises n _ _ (components k (omega arith)) (components (k + 1) h) (rw (e, f) at (tried_each _ _ (length ts - 1) 1 (both_pass _ _ passes).1 k (omega arith)))

    after : (k d : ℕ) → k + d + 1 < length ts → P k < P (k + d + 1)
    after k zero h = let e : k + 0 + 1 ≡ k + 1 = omega arith in rw e (next k (omega arith))
    after k (suc d) h =
        let e : k + suc d + 1 ≡ k + d + 1 + 1 = omega arith in
        let a = after k d (omega arith) in
        let b = next (k + d + 1) (omega arith) in
        rw e (omega (arith, a, b))

    pub rises : (k j : ℕ) → k < j → j < length ts → P k < P j
    rises k j h l = let e : k + (j - k - 1) + 1 ≡ j = omega arith in rw e at (after k (j - k - 1) (omega arith))

    apart : (k j : ℕ) → k < j → j < length ts → P k ≢ P j
    apart k j h l q = let a = rises k j h l in omega (arith, a, q)

    pub own_place : (k : ℕ) → k < length ts → at (square n ts) (P k) ≡ share (nth ts k)
    unfolding square
    own_place k h =
        let b = place_below n (nth ts k) (components k h) in
        let l = length-replicate (2 * (n * n)) (pos 0) in
        rw (zero-add k) at
        (at_own (length ts) 0 (replicate (2 * (n * n)) (pos 0)) k h (rw (zero-add k, l) (omega (arith, b))) (λ i f g. rw (zero-add k, zero-add i) (apart k i f g)))

    pub place_within : (k : ℕ) → k < length ts → P k < n * n
    place_within k h = place_below n (nth ts k) (components k h)
