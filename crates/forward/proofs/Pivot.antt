-- The row that a step takes.
use mathlib.Core.Path.{◌≡◌, refl, sym, subst}
use mathlib.Core.Logic.{◌↔◌}
use mathlib.Core.Bool.{Bool, true, false, cond}
use mathlib.Core.List.{List}
use Prim.Native.Nat.{ℕ, zero, suc, ◌+◌, ◌-◌, ◌≤◌, ◌<◌}
use native.Mathlib.Omega.{arith}
use native.Mathlib.Decide.{ℕ_discrete}
use lib.IntN.{ℤ}
use Rattle.outcome.specs.declared.Refusal.{Refusal}
use Rattle.outcome.specs.declared.Refusal.TheVariants as refusal
use Rattle.outcome.specs.Run.{Run, refused, done}
use Rattle.outcome.proofs.Run.{never, done_same, refused_same, not_refused}
use Rattle.interval.specs.Interval.{contains_zero}
use Rattle.inputs.specs.Place.{at, cell}
use Rattle.forward.specs.Pivot.{lowest_from, lowest_row}
use Rattle.forward.proofs.Step.{turn}

-- ---- a row that serves
pub record Serves (n k i : ℕ) (t : List ℤ) : Type 0 where
  pub from : k ≤ i
  pub below : i < n
  pub apart : contains_zero (at t (cell n i k)) ≡ false

serves_from : (n k d i : ℕ) (t : List ℤ) (r : ℕ) → k ≤ i → i + d ≡ n → lowest_from n k d i t ≡ done r → Serves n k r t
unfolding lowest_from
serves_from n k zero i t r a b e = never e
serves_from n k (suc d) i t r a b e = go (contains_zero (at t (cell n i k))) refl e (serves_from n k d (i + 1) t r (omega arith) (omega arith))
  where
    go : (z : Bool) → contains_zero (at t (cell n i k)) ≡ z → cond z (lowest_from n k d (i + 1) t) (done i) ≡ done r → (lowest_from n k d (i + 1) t ≡ done r → Serves n k r t) → Serves n k r t
    go true z f later = later f
    go false z f later = subst (λ r. Serves n k r t) (done_same f) (record { from = a; below = omega arith; apart = z })

pub serves : (n k : ℕ) (t : List ℤ) (r : ℕ) → k < n → lowest_row n k t ≡ done r → Serves n k r t
unfolding lowest_row
serves n k t r h e = serves_from n k (n - k) k t r (omega arith) (omega arith) e

-- it is refused with 5 alone, and with its own pivot
five_alone : (n k d i : ℕ) (t : List ℤ) (o : Refusal) → lowest_from n k d i t ≡ refused o → o ≡ refusal.ContainsZero (k + 1)
unfolding lowest_from
five_alone n k zero i t o e = sym (refused_same e)
five_alone n k (suc d) i t o e = go (contains_zero (at t (cell n i k))) e (five_alone n k d (i + 1) t o)
  where
    go : (z : Bool) → cond z (lowest_from n k d (i + 1) t) (done i) ≡ refused o → (lowest_from n k d (i + 1) t ≡ refused o → o ≡ refusal.ContainsZero (k + 1)) → o ≡ refusal.ContainsZero (k + 1)
    go true f later = later f
    go false f later = not_refused f

pub refused_five : (n k : ℕ) (t : List ℤ) (o : Refusal) → lowest_row n k t ≡ refused o → o ≡ refusal.ContainsZero (k + 1)
unfolding lowest_row
refused_five n k t o e = five_alone n k (n - k) k t o e

-- ---- one turn of the search
module _ (n k i : ℕ) (t : List ℤ) where
  pub search_end : n ≤ i → lowest_from n k (n - i) i t ≡ refused (refusal.ContainsZero (k + 1))
  unfolding lowest_from
  search_end h = let e : n - i ≡ 0 = omega arith in rw e

  pub search_go : i < n → contains_zero (at t (cell n i k)) ≡ true → lowest_from n k (n - i) i t ≡ lowest_from n k (n - (i + 1)) (i + 1) t
  unfolding lowest_from
  search_go h z = rw (turn n i h, z)

  pub search_found : i < n → contains_zero (at t (cell n i k)) ≡ false → lowest_from n k (n - i) i t ≡ done i
  unfolding lowest_from
  search_found h z = rw (turn n i h, z)

pub search_whole : (n k : ℕ) (t : List ℤ) (r : Run ℕ) → lowest_from n k (n - k) k t ≡ r → lowest_row n k t ≡ r
unfolding lowest_row
search_whole n k t r e = e

-- ---- 5 exactly if no such row exists
five_to : (n k d i : ℕ) (t : List ℤ) → i + d ≡ n → lowest_from n k d i t ≡ refused (refusal.ContainsZero (k + 1)) → (l : ℕ) → i ≤ l → l < n → contains_zero (at t (cell n l k)) ≡ true
unfolding lowest_from
five_to n k zero i t b e l p q = absurd (omega arith)
five_to n k (suc d) i t b e l p q =
    go (contains_zero (at t (cell n i k))) refl e (ℕ_discrete l i) (λ f u. five_to n k d (i + 1) t (omega arith) f l u q)
  where
    go : (z : Bool) → contains_zero (at t (cell n i k)) ≡ z → cond z (lowest_from n k d (i + 1) t) (done i) ≡ refused (refusal.ContainsZero (k + 1)) → Dec (l ≡ i) →
        (lowest_from n k d (i + 1) t ≡ refused (refusal.ContainsZero (k + 1)) → i + 1 ≤ l → contains_zero (at t (cell n l k)) ≡ true) → contains_zero (at t (cell n l k)) ≡ true
    go true z f (yes u) g = rw (u, z)
    go true z f (no u) g = g f (omega (arith, u))
    go false z f u g = not_refused f

five_from : (n k d i : ℕ) (t : List ℤ) → i + d ≡ n → ((l : ℕ) → i ≤ l → l < n → contains_zero (at t (cell n l k)) ≡ true) → lowest_from n k d i t ≡ refused (refusal.ContainsZero (k + 1))
unfolding lowest_from
five_from n k zero i t b h = refl
five_from n k (suc d) i t b h = rw (h i (omega arith) (omega arith)) (five_from n k d (i + 1) t (omega arith) (λ l p q. h l (omega arith) q))

pub five : (n k : ℕ) (t : List ℤ) → k < n → (lowest_row n k t ≡ refused (refusal.ContainsZero (k + 1))) ↔ ((l : ℕ) → k ≤ l → l < n → contains_zero (at t (cell n l k)) ≡ true)
unfolding lowest_row
five n k t h = (five_to n k (n - k) k t (omega arith), five_from n k (n - k) k t (omega arith))

-- ---- a pivot without 0 stays where it is
pub stays : (n k : ℕ) (t : List ℤ) → k < n → contains_zero (at t (cell n k k)) ≡ false → lowest_row n k t ≡ done k
unfolding lowest_row
stays n k t h z = search_found n k k t h z
