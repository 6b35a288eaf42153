-- Document 02, A3: 'the place of the first byte sought'.
use Rattle.std.specs.Prelude.{cond, Option, Some, None, List, [], ◌∷◌, ℕ, ◌+◌, ◌≤◌, ◌<◌, eqb, length, drop}

-- the first b in a list whose first byte has the place i
unfoldable pub first_in : List ℕ → (b i : ℕ) → Option ℕ
first_in [] b i = None
first_in (x ∷ xs) b i = cond (eqb x b) (Some i) (first_in xs b (i + 1))

-- the place of the first b in s, from a place on
unfoldable pub first_from : List ℕ → (from b : ℕ) → Option ℕ
first_from s from b = first_in (drop from s) b from

-- a place that was found lies in s, from `from` on
abbrev pub within : List ℕ → (from : ℕ) → Option ℕ → Type 0
within s from (Some j) = (from ≤ j) × (j < length s)
within s from None = Unit

-- as one number, for the outside check
abbrev pub place_or : (none : ℕ) → Option ℕ → ℕ
place_or none (Some j) = j
place_or none None = none
