-- What the library's `all` answers over places from 0: the same as the definitions that go through them one by one.
use mathlib.Core.Path.{◌≡◌, refl, sym, ap, subst, ◌∙◌}
use mathlib.Core.Bool.{Bool, true, false, ◌&&◌}
use Prim.Native.Nat.{ℕ, zero, suc, ◌+◌, ◌≤◌, ◌<◌}
use native.Mathlib.Omega.{arith}
use native.Mathlib.Nat.{zero-add}
use lib.Dec.{T}
use lib.IntN.{ℤ}
use lib.ListN.{length}
use lib.Signed.{lt_z}
use Rattle.std.proofs.lemmas.List.FromFn.{length-range_with_len, get_or-range_with_len}
use Rattle.std.specs.Bool.{MatchBool}
use Rattle.std.specs.List.{range_with_len, AllWithin, HoldsAt}
use Rattle.integer.proofs.Total.{first_or_later}
use Rattle.interval.specs.declared.Interval.{Interval}
use Rattle.interval.specs.Interval.{scale, in_range}
use Rattle.interval.proofs.Range.{and_both}
use Rattle.start_box.specs.Sums.{all_below_one}
use Rattle.start_box.specs.Call.{all_in_range}

-- each of t(i), t(i + 1), .., d of them
pub every : (ℕ → Bool) → (d i : ℕ) → Bool
every t zero i = true
every t (suc d) i = t i && every t d (i + 1)

every_yes : (t : ℕ → Bool) (d i : ℕ) → ((l : ℕ) → i ≤ l → l < i + d → t l ≡ true) → true ≡ every t d i
unfolding every
every_yes t zero i h = refl
every_yes t (suc d) i h = rw (h i (omega arith) (omega arith)) (every_yes t d (i + 1) (λ l a b. h l (omega arith) (omega arith)))

pub every_each : (t : ℕ → Bool) (d i : ℕ) → every t d i ≡ true → (l : ℕ) → i ≤ l → l < i + d → t l ≡ true
unfolding every
every_each t zero i e l a b = absurd (omega arith)
every_each t (suc d) i e l a b =
    let k = and_both (t i) (every t d (i + 1)) e in
    first_or_later (λ j. t j ≡ true) i l a k.0 (λ c. every_each t d (i + 1) k.1 l c (omega arith))

every_no : (t : ℕ → Bool) (n l : ℕ) → l < n → t l ≡ false → false ≡ every t n 0
every_no t n l h e = go (every t n 0) refl
  where
    go : (b : Bool) → every t n 0 ≡ b → false ≡ every t n 0
    go false f = sym f
    go true f = absurd (subst T (sym (every_each t n 0 f l (omega arith) (omega arith)) ∙ e) tt)

-- what `all` says of its answer
abbrev Answer : (t : ℕ → Bool) (n : ℕ) → Bool → Type 0
Answer t n r =
    let xs = range_with_len 0 n in
    MatchBool r (AllWithin (λ i. t i ≡ true) xs 0 (length xs)) ((k : ℕ) × (k < length xs) × HoldsAt (λ i. t i ≡ false) xs k)

answer : (t : ℕ → Bool) (n : ℕ) (r : Bool) → Answer t n r → r ≡ every t n 0
answer t n true h = every_yes t n 0 (λ l a b. rw (get_or-range_with_len 0 n l 0 (omega arith), zero-add l) at (h l 0 a (rw (length-range_with_len 0 n) (omega arith))))
answer t n false h =
    let k = h.0 in
    let l : k < n = rw (length-range_with_len 0 n) at h.1 in
    every_no t n k l (rw (get_or-range_with_len 0 n k 0 l, zero-add k) at (h.2 0))

-- ---- the two definitions
pub below_every : (f : ℕ → ℤ) (d i : ℕ) → all_below_one f d i ≡ every (λ l. lt_z (f l) scale) d i
unfolding all_below_one every
below_every f zero i = refl
below_every f (suc d) i = ap (λ b. lt_z (f i) scale && b) (below_every f d (i + 1))

range_every : (f : ℕ → Interval) (d i : ℕ) → all_in_range f d i ≡ every (λ l. in_range (f l)) d i
unfolding all_in_range every
range_every f zero i = refl
range_every f (suc d) i = ap (λ b. in_range (f i) && b) (range_every f d (i + 1))

pub below_answer : (f : ℕ → ℤ) (n : ℕ) (r : Bool) → Answer (λ l. lt_z (f l) scale) n r → r ≡ all_below_one f n 0
below_answer f n r h = answer _ n r h ∙ sym (below_every f n 0)

pub range_answer : (f : ℕ → Interval) (n : ℕ) (r : Bool) → Answer (λ l. in_range (f l)) n r → r ≡ all_in_range f n 0
range_answer f n r h = answer _ n r h ∙ sym (range_every f n 0)
