-- One turn of a search byte by byte.
use mathlib.Core.Path.{◌≡◌, refl}
use mathlib.Core.List.{List, [], ◌∷◌}
use Prim.Native.Nat.{ℕ, ◌+◌, ◌≤◌, ◌<◌}
use native.Mathlib.Numerals.{add-one}
use native.Mathlib.Omega.{arith}
use borrow.Author.Tests.{eq-eqb, ne_eqb}
use lib.ListN.{length, get_or, drop, drop_of_length-le}
use lib.Seq.{drop-cons}
use Rattle.std.specs.Prelude.{Some, None, eqb, option_map, position}
use Rattle.search.specs.First.{first_in, first_from}

module _ (s : List ℕ) (b i : ℕ) where
  pub there : i < length s → get_or s i 0 ≡ b → first_from s i b ≡ Some i
  unfolding first_from first_in
  there h e = rw (drop-cons s i 0, eq-eqb _ _ e)

  pub not_there : i < length s → (get_or s i 0 ≡ b → ⊥) → first_from s i b ≡ first_from s (i + 1) b
  unfolding first_from first_in
  not_there h n = rw (add-one, drop-cons s i 0, ne_eqb _ _ n, add-one)

  pub past : length s ≤ i → first_from s i b ≡ None
  unfolding first_from first_in
  past h = rw (drop_of_length-le s h)

first_in_by_position : (s : List ℕ) (b i : ℕ) → first_in s b i ≡ option_map (λ k. i + k) (position (λ x. eqb x b) s)
unfolding first_in
first_in_by_position [] b i = refl
first_in_by_position (x ∷ s) b i = grind (arith, first_in_by_position s b (i + 1))

-- the library's search
pub by_position : (s : List ℕ) (from b : ℕ) → first_from s from b ≡ option_map (λ k. from + k) (position (λ x. eqb x b) (drop from s))
unfolding first_from
by_position s from b = first_in_by_position (drop from s) b from
