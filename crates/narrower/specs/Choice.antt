-- Document 02, A2: 'A call over n and two lent boxes hands back the one with the smaller sum of widths, itself and no copy.'
use Rattle.std.specs.Prelude.{◌≡◌, Bool, cond, List, [], ◌∷◌, ℕ, ◌*◌, ℤ, length, is_ok}
use Rattle.std.specs.Borrow.{Bor}
use Rattle.std.specs.Int.Signed.{lt_z}
use Rattle.inputs.specs.Place.{widths}
use Rattle.inputs.specs.Tests.{both, slice, sizes, proper}
use Rattle.narrower.specs.declared.Choice.{Choice}
use Rattle.narrower.specs.declared.Choice.TheVariants.{Neither, First, Second}

-- X does not fail '01's test 1, 2 or 3'; a box is slice 3 of 01's table
unfoldable pub is_box : (n : ℕ) → List ℤ → Bool
is_box n X = is_ok (both (sizes n (slice 3 (length X) (2 * n) ∷ [])) (proper X n 0 0))

-- 'the one with the smaller sum of widths', 'The first wins at a tie'
unfoldable pub by_widths : (n : ℕ) → List ℤ → List ℤ → Choice
by_widths n X Y = cond (lt_z (widths Y n 0) (widths X n 0)) Second First

-- 'A box that fails 01's test 1, 2 or 3 is wider than any other'
unfoldable pub chosen : (n : ℕ) → List ℤ → List ℤ → Choice
chosen n X Y = cond (is_box n X) (cond (is_box n Y) (by_widths n X Y) First) (cond (is_box n Y) Second Neither)

-- 'hands back the one .., itself and no copy': the same reference. 'two such give an empty part of the first':
-- nothing, from where the first starts
unfoldable pub Handed : Choice → (first second handed : Bor (List ℤ)) → Type 0
Handed First x y r = r ≡ x
Handed Second x y r = r ≡ y
Handed Neither x y r = (r.ref_ptr ≡ x.ref_ptr) × (r.now ≡ [])

-- the number of a choice, for C
abbrev pub choice_number : Choice → ℕ
choice_number Neither = 0
choice_number First = 1
choice_number Second = 2
