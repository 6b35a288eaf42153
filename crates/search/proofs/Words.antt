-- Words of one, two, four and eight bytes.
use mathlib.Core.Path.{◌≡◌, refl, sym, ap, ◌∙◌}
use mathlib.Core.List.{List, [], ◌∷◌}
use Prim.Native.Nat.{ℕ, zero, suc, ◌+◌, ◌*◌, ◌≤◌}
use native.Mathlib.Numerals.{add-one}
use native.Mathlib.Omega.{arith}
use lib.ListN.{length, get_or}
use Rattle.std.proofs.lemmas.List.{take_all}
use Rattle.std.specs.Int.{from_le_bytes, w64}
use Rattle.search.specs.Word.{packed, word_at}

pub word_none : (s : List ℕ) (i : ℕ) → word_at s i 0 ≡ 0
unfolding word_at packed
word_none s i = refl

more_after : (d : ℕ) (s : List ℕ) (i : ℕ) → word_at s i (suc d) ≡ word_at s (suc i) d * 256 + get_or s i 0
unfolding word_at packed
more_after zero [] zero = refl
more_after zero [] (suc i) = refl
more_after (suc d) [] zero = refl
more_after (suc d) [] (suc i) = refl
more_after d (x ∷ s) zero = refl
more_after d (x ∷ s) (suc i) = more_after d s i

-- the first byte apart
pub word_more : (s : List ℕ) (i d : ℕ) → word_at s i (suc d) ≡ word_at s (i + 1) d * 256 + get_or s i 0
word_more s i d = more_after d s i ∙ ap (λ j. word_at s j d * 256 + get_or s i 0) (sym (add-one i))

pub eight_bytes : (t : List ℕ) → length t ≤ 8 → from_le_bytes w64 t ≡ packed t
unfolding word_at
eight_bytes t h =
    let e : word_at t 0 8 ≡ packed t = ap packed (take_all 8 t h) in
    omega (arith, e, word_more t 0 7, word_more t 1 6, word_more t 2 5, word_more t 3 4, word_more t 4 3, word_more t 5 2, word_more t 6 1, word_more t 7 0, word_none t 8)
