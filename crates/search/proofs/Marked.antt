-- What the marks of a word say of a search.
use mathlib.Core.Path.{◌≡◌, refl, sym, ap, ap₂, ◌∙◌}
use mathlib.Core.Logic.{◌≢◌}
use mathlib.Core.List.{List}
use Prim.Native.Nat.{ℕ, zero, suc, ◌+◌, ◌*◌, ◌/◌, ◌%◌, ◌^◌, ◌≤◌, ◌<◌}
use native.Mathlib.Omega.{arith}
use native.Mathlib.Nat.{add-zero, zero-add}
use native.Mathlib.Decide.{ℕ_discrete}
use borrow.Author.Tests.{eq-eqb, ne_eqb}
use lib.Count.{count_trailing_zeros}
use lib.ListN.{length, get_or}
use lib.Bits.{shifted_even, shifted_half}
use Rattle.std.specs.Prelude.{Some}
use Rattle.search.specs.First.{first_from}
use Rattle.search.specs.Word.{marks_at}
use Rattle.search.proofs.Turn.{there, not_there}

-- ---- the first mark
trailing_even : (k n : ℕ) → n % 2 ≡ 0 → count_trailing_zeros (suc k) n ≡ suc (count_trailing_zeros k (n / 2))
unfolding count_trailing_zeros
trailing_even k n e = rw e

-- j zeros more below
trailing_more : (j k n : ℕ) → count_trailing_zeros (j + k) (n * 2 ^ j) ≡ j + count_trailing_zeros k n
trailing_more zero k n = let e : n * 2 ^ 0 ≡ n = omega arith in rw (zero-add k, e, zero-add)
trailing_more (suc j) k n =
    let e : suc j + k ≡ suc (j + k) = omega arith in
    let f : suc j + count_trailing_zeros k n ≡ suc (j + count_trailing_zeros k n) = omega arith in
    ap (λ (d : ℕ). count_trailing_zeros d (n * 2 ^ suc j)) e ∙
    trailing_even (j + k) (n * 2 ^ suc j) (shifted_even n j) ∙ ap (λ (z : ℕ). suc (count_trailing_zeros (j + k) z)) (shifted_half n j) ∙ ap suc (trailing_more j k n) ∙
    sym f

trailing_odd : (k n : ℕ) → count_trailing_zeros (suc k) (n * 2 + 1) ≡ 0
unfolding count_trailing_zeros
trailing_odd k n = let e : (n * 2 + 1) % 2 ≡ 1 = omega arith in rw e

-- how many lanes stand below the first mark
abbrev pub before : ℕ → ℕ → ℕ
before n m = count_trailing_zeros (8 * n) m / 8

before_marked : (n m : ℕ) → before (suc n) (m * 256 + 128) ≡ 0
before_marked n m =
    let e : 8 * suc n ≡ 7 + suc (8 * n) = omega arith in
    let f : m * 256 + 128 ≡ (m * 2 + 1) * 2 ^ 7 = omega arith in
    let g : count_trailing_zeros (8 * suc n) (m * 256 + 128) ≡ 7 = ap₂ count_trailing_zeros e f ∙ trailing_more 7 (suc (8 * n)) (m * 2 + 1) ∙ ap (λ (z : ℕ). 7 + z) (trailing_odd (8 * n) m) in
    rw g

before_unmarked : (n m : ℕ) → before (suc n) (m * 256 + 0) ≡ suc (before n m)
before_unmarked n m =
    let e : 8 * suc n ≡ 8 + 8 * n = omega arith in
    let f : m * 256 + 0 ≡ m * 2 ^ 8 = omega arith in
    let g : count_trailing_zeros (8 * suc n) (m * 256 + 0) ≡ 8 + count_trailing_zeros (8 * n) m = ap₂ count_trailing_zeros e f ∙ trailing_more 8 (8 * n) m in
    rw g (omega arith)

-- ---- the search over the d bytes from i on
module _ (s : List ℕ) (b : ℕ) where
  -- no mark: none of them is b, nor of the first k of them
  pub unmarked : (d i k : ℕ) → k ≤ d → i + d ≤ length s → marks_at s i b d ≡ 0 → first_from s i b ≡ first_from s (i + k) b
  unfolding marks_at
  unmarked d i zero l h e = rw (add-zero i)
  unmarked zero i (suc k) l h e = absurd (omega arith)
  unmarked (suc d) i (suc k) l h e = go (ℕ_discrete (get_or s i 0) b) (unmarked d (i + 1) k)
    where
      go : Dec (get_or s i 0 ≡ b) → (k ≤ d → i + 1 + d ≤ length s → marks_at s (i + 1) b d ≡ 0 → first_from s (i + 1) b ≡ first_from s (i + 1 + k) b) → first_from s i b ≡ first_from s (i + suc k) b
      go (yes f) g = absurd (omega (arith, rw (eq-eqb _ _ f) at e))
      go (no f) g =
          let z : marks_at s (i + 1) b d ≡ 0 = omega (arith, rw (ne_eqb _ _ f) at e) in
          let m : i + 1 + k ≡ i + suc k = omega arith in
          not_there s b i (omega arith) f ∙ g (omega arith) (omega arith) z ∙ ap (λ j. first_from s j b) m

  -- a mark: the first of them is where b first stands
  pub marked : (d i : ℕ) → i + d ≤ length s → marks_at s i b d ≢ 0 → (first_from s i b ≡ Some (i + before d (marks_at s i b d))) × (before d (marks_at s i b d) < d)
  unfolding marks_at
  marked zero i h e = absurd (e refl)
  marked (suc d) i h e = go (ℕ_discrete (get_or s i 0) b) (marked d (i + 1))
    where
      go : Dec (get_or s i 0 ≡ b) → (i + 1 + d ≤ length s → marks_at s (i + 1) b d ≢ 0 → (first_from s (i + 1) b ≡ Some (i + 1 + before d (marks_at s (i + 1) b d))) × (before d (marks_at s (i + 1) b d) < d)) →
          (first_from s i b ≡ Some (i + before (suc d) (marks_at s i b (suc d)))) × (before (suc d) (marks_at s i b (suc d)) < suc d)
      go (yes f) g = rw (eq-eqb _ _ f, before_marked d (marks_at s (i + 1) b d), add-zero i) (there s b i (omega arith) f, omega arith)
      go (no f) g =
          let z : marks_at s (i + 1) b d ≢ 0 = λ q. e (rw (ne_eqb _ _ f, q)) in
          let r = g (omega arith) z in
          let l : i + 1 + before d (marks_at s (i + 1) b d) ≡ i + suc (before d (marks_at s (i + 1) b d)) = omega arith in
          rw (ne_eqb _ _ f, before_unmarked d (marks_at s (i + 1) b d)) (not_there s b i (omega arith) f ∙ r.0 ∙ ap Some l, omega (arith, r.1))
