-- Reading and writing one interval of a list; where the cells of a matrix stand; a list made of its intervals.
use mathlib.Core.Path.{◌≡◌, refl, sym, ap, ◌∙◌}
use mathlib.Core.Bool.{true}
use mathlib.Core.Logic.{◌≢◌, ◌⊎◌, inl, inr}
use mathlib.Core.List.{List, ◌∷◌, ◌++◌}
use Prim.Native.Nat.{ℕ, zero, suc, ◌+◌, ◌-◌, ◌*◌, ◌/◌, ◌%◌, ◌≤◌, ◌<◌}
use native.Mathlib.Omega.{arith}
use native.Mathlib.Nat.{zero-add, mul-le-mul, div-add-mod, mod-lt}
use native.Mathlib.Decide.{dec_lt, ℕ_discrete}
use lib.IntN.{ℤ, pos}
use lib.ListN.{get_or, set, length, length-set, get_or-eq_default, get_or-append}
use lib.Seq.{get_or-set_same, get_or-set_other, get_or-append-add, ext_get_or}
use Rattle.interval.specs.declared.Interval.{Interval}
use Rattle.interval.specs.Interval.{zero as zeroInterval, ends, acceptable, lowest, highest, within, in_range}
use Rattle.interval.proofs.Range.{same_ends}
use Rattle.inputs.specs.Place.{at, put, cell, numbers}
use Rattle.inputs.specs.Code.{Sound}
use Rattle.std.specs.Prelude.{Ok}
use Rattle.inputs.specs.Tests.{proper}
use Rattle.inputs.proofs.Tests.{rows_apart, proper_each}

pub length_put : (t : List ℤ) (p : ℕ) (v : Interval) → length (put t p v) ≡ length t
unfolding put
length_put t p v = simp length-set

pub at_put_same : (t : List ℤ) (p : ℕ) (v : Interval) → 2 * p + 1 < length t → at (put t p v) p ≡ v
unfolding at put
at_put_same t p v h =
    same_ends _ _
    (get_or-set_other (set t (2 * p) v.lo) (2 * p + 1) (2 * p) v.hi (pos 0) (omega arith) ∙ get_or-set_same t (2 * p) v.lo (pos 0) (omega arith))
    (get_or-set_same (set t (2 * p) v.lo) (2 * p + 1) v.hi (pos 0) (simp length-set (omega arith)))

pub at_put_other : (t : List ℤ) (p q : ℕ) (v : Interval) → q ≢ p → at (put t p v) q ≡ at t q
unfolding at put
at_put_other t p q v h =
    same_ends _ _
    (get_or-set_other (set t (2 * p) v.lo) (2 * p + 1) (2 * q) v.hi (pos 0) (omega arith) ∙ get_or-set_other t (2 * p) (2 * q) v.lo (pos 0) (omega arith))
    (get_or-set_other (set t (2 * p) v.lo) (2 * p + 1) (2 * q + 1) v.hi (pos 0) (omega arith) ∙ get_or-set_other t (2 * p) (2 * q + 1) v.lo (pos 0) (omega arith))

pub sound_put : (t : List ℤ) (p : ℕ) (v : Interval) → Sound t → 2 * p + 1 < length t → acceptable v ≡ true → Sound (put t p v)
sound_put t p v h l e = record { each = λ q. go q (ℕ_discrete q p) }
  where
    go : (q : ℕ) → Dec (q ≡ p) → acceptable (at (put t p v) q) ≡ true
    go q (yes f) = rw (f, at_put_same t p v l) e
    go q (no f) = rw (at_put_other t p q v f) (h.each q)

-- past the end
pub at_past : (t : List ℤ) (p : ℕ) → length t ≤ 2 * p → at t p ≡ zeroInterval
unfolding at
at_past t p h = same_ends _ _ (get_or-eq_default t (pos 0) h) (get_or-eq_default t (pos 0) (omega arith))

-- a slice whose intervals were tested
pub zero_accepted : acceptable zeroInterval ≡ true
unfolding acceptable in_range within lowest highest
zero_accepted = refl

pub proper_sound : (t : List ℤ) (count from : ℕ) → length t ≡ 2 * count → proper t count 0 from ≡ Ok tt → Sound t
proper_sound t count from l e = record { each = λ p. go p (dec_lt p count) }
  where
    go : (p : ℕ) → Dec (p < count) → acceptable (at t p) ≡ true
    go p (yes h) = rw (zero-add p) at (proper_each t count 0 from e p h)
    go p (no h) = rw (at_past t p (omega arith)) zero_accepted

-- ---- lists one after the other
pub at_left : (s t : List ℤ) (p : ℕ) → 2 * p + 1 < length s → at (s ++ t) p ≡ at s p
unfolding at
at_left s t p h = same_ends _ _ (get_or-append s t (pos 0) (2 * p) (omega arith)) (get_or-append s t (pos 0) (2 * p + 1) h)

pub at_right : (s t : List ℤ) (a q : ℕ) → length s ≡ 2 * a → at (s ++ t) (a + q) ≡ at t q
unfolding at
at_right s t a q h =
    let e : 2 * (a + q) ≡ length s + 2 * q = omega arith in
    let f : 2 * (a + q) + 1 ≡ length s + (2 * q + 1) = omega arith in
    same_ends _ _ (rw e (get_or-append-add s t (2 * q) (pos 0))) (rw f (get_or-append-add s t (2 * q + 1) (pos 0)))

pub sound_append : (s t : List ℤ) (a : ℕ) → length s ≡ 2 * a → Sound s → Sound t → Sound (s ++ t)
sound_append s t a l h k = record { each = λ p. go p (dec_lt p a) }
  where
    go : (p : ℕ) → Dec (p < a) → acceptable (at (s ++ t) p) ≡ true
    go p (yes f) = rw (at_left s t p (omega arith)) (h.each p)
    go p (no f) = let e : p ≡ a + (p - a) = omega (arith, f) in rw e (rw (at_right s t a (p - a) l) (k.each (p - a)))

-- nothing but noughts
pub sound_noughts : (t : List ℤ) → ((i : ℕ) → get_or t i (pos 0) ≡ pos 0) → Sound t
unfolding at
sound_noughts t h = record { each = λ p. rw (h (2 * p), h (2 * p + 1)) zero_accepted }

-- ---- the cells of a matrix
pub cell_before : (n i j : ℕ) → i < n → j < n → cell n i j < n * n
cell_before n i j h k = omega (arith, rows_apart n i n h)

pub row_small : (n i : ℕ) → n ≤ 32 → i < n → i * n ≤ 992
row_small n i h k = mul-le-mul {n₁ = i} {m₁ = n} {n₂ = 31} {m₂ = 32} (omega arith) h

-- ---- a list made of its intervals
at_first : (a b : ℤ) (t : List ℤ) → at (a ∷ b ∷ t) 0 ≡ ends a b
unfolding at
at_first a b t = refl

at_later : (a b : ℤ) (t : List ℤ) (p : ℕ) → at (a ∷ b ∷ t) (suc p) ≡ at t p
unfolding at
at_later a b t p =
    let e : 2 * suc p ≡ suc (suc (2 * p)) = omega arith in
    let f : 2 * suc p + 1 ≡ suc (suc (2 * p + 1)) = omega arith in
    rw (f, e)

pub numbers_at : (f : ℕ → Interval) (d p k : ℕ) → k < d → at (numbers f d p) k ≡ f (p + k)
unfolding numbers
numbers_at f zero p k h = absurd (omega arith)
numbers_at f (suc d) p zero h = let e : p + 0 ≡ p = omega arith in rw e (at_first _ _ _)
numbers_at f (suc d) p (suc k) h = let e : p + suc k ≡ p + 1 + k = omega arith in rw e (at_later _ _ _ k ∙ numbers_at f d (p + 1) k (omega arith))

numbers_length : (f : ℕ → Interval) (d p : ℕ) → length (numbers f d p) ≡ 2 * d
unfolding numbers
numbers_length f zero p = refl
numbers_length f (suc d) p = omega (arith, numbers_length f d (p + 1))

-- each number of a list is an end of one of its intervals
by_half : (i : ℕ) → (i ≡ 2 * (i / 2)) ⊎ (i ≡ 2 * (i / 2) + 1)
by_half i = go (i % 2) refl
  where
    two : 0 < 2
    two = omega arith

    go : (r : ℕ) → i % 2 ≡ r → (i ≡ 2 * (i / 2)) ⊎ (i ≡ 2 * (i / 2) + 1)
    go zero e = inl (omega (arith, div-add-mod i 2))
    go (suc zero) e = inr (omega (arith, div-add-mod i 2))
    go (suc (suc r)) e = absurd (omega (arith, mod-lt i two))

same_intervals : {s t : List ℤ} {d : ℕ} → length s ≡ 2 * d → length t ≡ 2 * d → ((p : ℕ) → p < d → at s p ≡ at t p) → s ≡ t
unfolding at
same_intervals {s} {t} {d} l m f = ext_get_or (pos 0) s t (l ∙ sym m) (λ i h. go i h (by_half i))
  where
    go : (i : ℕ) → i < length s → (i ≡ 2 * (i / 2)) ⊎ (i ≡ 2 * (i / 2) + 1) → get_or s i (pos 0) ≡ get_or t i (pos 0)
    go i h (inl e) = rw e (ap (λ v. v.lo) (f (i / 2) (omega arith)))
    go i h (inr e) = rw e (ap (λ v. v.hi) (f (i / 2) (omega arith)))

-- so the list is known by its intervals
pub numbers_is : (f : ℕ → Interval) (d : ℕ) (t : List ℤ) → length t ≡ 2 * d → ((p : ℕ) → p < d → at t p ≡ f p) → t ≡ numbers f d 0
numbers_is f d t l h = same_intervals l (numbers_length f d 0) (λ p k. h p k ∙ sym (numbers_at f d 0 p k ∙ ap f (zero-add p)))
