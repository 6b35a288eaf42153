-- Document 01, Bounds in units: 'A matrix is lent as 2·n·n numbers, row by row, each interval lower then upper. A vector or box
-- is 2·n numbers.'
use Rattle.std.specs.Prelude.{List, [], ◌∷◌, ℕ, ◌*◌, ℤ, length}
use Rattle.inputs.specs.declared.Slice.{Slice}
use Rattle.inputs.specs.Tests.{Test, both, slice, sizes, Part, all_proper}

-- what is lent to a call besides its box
pub record System : Type 0 where
  pub size : ℕ
  pub matrix : List ℤ
  pub right : List ℤ

abbrev pub system : ℕ → List ℤ → List ℤ → System
system n m r = record { size = n; matrix = m; right = r }

-- '1 matrix, 2 right side, 3 box'
abbrev pub slices : System → (boxLength : ℕ) → List Slice
slices s l =
    slice 1 (length s.matrix) (2 * (s.size * s.size))
    ∷ slice 2 (length s.right) (2 * s.size)
    ∷ slice 3 l (2 * s.size) ∷ []

-- 'through matrix, right side', and what comes after them
abbrev pub parts : System → List Part → List Part
parts s ps = record { numbers = s.matrix; count = s.size * s.size } ∷ record { numbers = s.right; count = s.size } ∷ ps

-- tests 1, 2 and 3 of a call that does not read what its lent box holds: of the box only the length is tested
unfoldable pub tests : System → (boxLength : ℕ) → Test
tests s l = both (sizes s.size (slices s l)) (all_proper 0 (parts s []))
