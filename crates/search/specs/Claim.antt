-- Document 02, A3: 'a search over any part of a text, of any length, gives the place of the first byte sought, and 'none' exactly if there is none'.
use Rattle.std.specs.Prelude.{◌≡◌, ◌↔◌, Some, None, List, ℕ, ◌≤◌, ◌<◌, length, get_or}
use Rattle.search.specs.First.{first_from}

-- a byte b stands at the place e of s, which is not before `from`
pub record Stands (s : List ℕ) (from b e : ℕ) : Type 0 where
  pub not_before : from ≤ e
  pub inside : e < length s
  pub sought : get_or s e 0 ≡ b

-- and none stands before it
pub record First (s : List ℕ) (from b e : ℕ) : Type 0 where
  pub stands : Stands s from b e
  pub lowest : (i : ℕ) → Stands s from b i → e ≤ i

-- s is any part of any text, and `from` is any place, also one past its end
pub record FirstByte : Type 0 where
  pub place : (s : List ℕ) (from b e : ℕ) → first_from s from b ≡ Some e ↔ First s from b e
  pub none : (s : List ℕ) (from b : ℕ) → first_from s from b ≡ None ↔ ((i : ℕ) → Stands s from b i → ⊥)
