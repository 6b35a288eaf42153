-- Whether a box differs from an earlier one, while its components are replaced one after the other.
use mathlib.Core.Path.{◌≡◌, refl, subst}
use mathlib.Core.Bool.{Bool, true, false, ◌||◌}
use mathlib.Core.Logic.{◌⊎◌, inl, inr, ⊎_elim}
use mathlib.Core.List.{List}
use Prim.Native.Nat.{ℕ, zero, suc, ◌+◌, ◌*◌, ◌≤◌, ◌<◌}
use native.Mathlib.Decide.{ℕ_discrete}
use native.Mathlib.Omega.{arith}
use lib.IntN.{ℤ}
use lib.ListN.{length}
use lib.Signed.{◌≤ℤ◌, ◌<ℤ◌, lt_z, ≤ℤ_refl}
use Rattle.integer.proofs.Linear.{linear, over}
use Rattle.integer.proofs.Order.{antisym, lt_or_ge, yes_lt, no_lt, le_lt_trans}
use Rattle.interval.specs.declared.Interval.{Interval}
use Rattle.fraction.specs.Meaning.{Contains}
use Rattle.inputs.specs.Place.{at, put}
use Rattle.inputs.proofs.Place.{at_put_same, at_put_other}
use Rattle.sweep.specs.Pass.{differs, differ}

differs_self : (v : Interval) → differs v v ≡ false
unfolding differs
differs_self v = rw (no_lt v.lo v.lo (≤ℤ_refl v.lo), no_lt v.hi v.hi (≤ℤ_refl v.hi))

pub differ_self : (x : List ℤ) (d j : ℕ) → differ x x d j ≡ false
unfolding differ
differ_self x zero j = refl
differ_self x (suc d) j = rw (differs_self (at x j), differ_self x d (j + 1))

-- ---- of three intervals one inside the other, the outer differs from the inner if the one between differs from either
module _ (a b c : ℤ) where
  ends_between : ((a ≤ℤ b) × (b ≤ℤ c)) ⊎ ((c ≤ℤ b) × (b ≤ℤ a)) → (lt_z a c || lt_z c a) ≡ ((lt_z a b || lt_z b a) || (lt_z b c || lt_z c b))
  ends_between = ⊎_elim (λ h. rising h.0 h.1 (lt_or_ge a b)) (λ h. falling h.0 h.1 (lt_or_ge b a))
    where
      or_true : (t : Bool) → (t || true) ≡ true
      or_true true = refl
      or_true false = refl

      beyond : (a b c : ℤ) → a <ℤ b → b ≤ℤ c → a <ℤ c
      beyond = over 3 _ (λ ρ. simp linear (omega arith))

      rising : a ≤ℤ b → b ≤ℤ c → (a <ℤ b) ⊎ (b ≤ℤ a) → (lt_z a c || lt_z c a) ≡ ((lt_z a b || lt_z b a) || (lt_z b c || lt_z c b))
      rising h k (inl l) = rw (yes_lt a b l, yes_lt a c (beyond a b c l k))
      rising h k (inr l) = subst (λ (z : ℤ). (lt_z a c || lt_z c a) ≡ ((lt_z a z || lt_z z a) || (lt_z z c || lt_z c z))) (antisym a b h l) (rw (no_lt a a (≤ℤ_refl a)))

      falling : c ≤ℤ b → b ≤ℤ a → (b <ℤ a) ⊎ (a ≤ℤ b) → (lt_z a c || lt_z c a) ≡ ((lt_z a b || lt_z b a) || (lt_z b c || lt_z c b))
      falling h k (inl l) = rw (yes_lt b a l, yes_lt c a (le_lt_trans h l), or_true (lt_z a c), or_true (lt_z a b))
      falling h k (inr l) = subst (λ (z : ℤ). (lt_z a c || lt_z c a) ≡ ((lt_z a z || lt_z z a) || (lt_z z c || lt_z c z))) (antisym a b l k) (rw (no_lt a a (≤ℤ_refl a)))

differs_between : {u v w : Interval} → Contains u v → Contains v w → differs u w ≡ (differs u v || differs v w)
unfolding differs
differs_between {u} {v} {w} h k =
    rw (ends_between u.lo v.lo w.lo (inl (h.low, k.low)), ends_between u.hi v.hi w.hi (inr (k.high, h.high)))
    (sorted (lt_z u.lo v.lo || lt_z v.lo u.lo) _ (lt_z u.hi v.hi || lt_z v.hi u.hi) _)
  where
    sorted : (a b c d : Bool) → ((a || b) || (c || d)) ≡ ((a || c) || (b || d))
    sorted true b c d = refl
    sorted false true true d = refl
    sorted false true false d = refl
    sorted false false c d = refl

module _ (x₀ x : List ℤ) (i : ℕ) (v : Interval) where
  -- the components after i are as they were
  differ_after : (d j : ℕ) → i < j → differ x₀ (put x i v) d j ≡ differ x₀ x d j
  unfolding differ
  differ_after zero j h = refl
  differ_after (suc d) j h = rw (at_put_other x i j v (omega arith), differ_after d (j + 1) (omega arith))

  -- component i of x lies inside the one before, and v inside that
  module _ (room : 2 * i + 1 < length x) (inside : Contains (at x₀ i) (at x i)) (narrower : Contains (at x i) v) where
    pub differ_put : (d j : ℕ) → j ≤ i → i < j + d → differ x₀ (put x i v) d j ≡ (differ x₀ x d j || differs (at x i) v)
    unfolding differ
    differ_put zero j h k = absurd (omega arith)
    differ_put (suc d) j h k = go (ℕ_discrete j i) (differ_put d (j + 1))
      where
        last : (a b c : Bool) → ((a || b) || c) ≡ ((a || c) || b)
        last true b c = refl
        last false true true = refl
        last false true false = refl
        last false false true = refl
        last false false false = refl

        apart : (a b c : Bool) → (a || (b || c)) ≡ ((a || b) || c)
        apart true b c = refl
        apart false b c = refl

        go : Dec (j ≡ i)
            → (j + 1 ≤ i → i < j + 1 + d → differ x₀ (put x i v) d (j + 1) ≡ (differ x₀ x d (j + 1) || differs (at x i) v))
            → (differs (at x₀ j) (at (put x i v) j) || differ x₀ (put x i v) d (j + 1)) ≡ ((differs (at x₀ j) (at x j) || differ x₀ x d (j + 1)) || differs (at x i) v)
        go (yes e) later =
            rw (e, at_put_same x i v room, differs_between inside narrower, differ_after d (i + 1) (omega arith))
            (last (differs (at x₀ i) (at x i)) (differs (at x i) v) (differ x₀ x d (i + 1)))
        go (no e) later = rw (at_put_other x i j v e, later (omega (arith, e)) (omega arith)) (apart (differs (at x₀ j) (at x j)) (differ x₀ x d (j + 1)) (differs (at x i) v))
