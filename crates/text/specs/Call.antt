-- The two calls over a text: its numbers, and a vat's name.
use Rattle.std.specs.Prelude.{cond, ◌&&◌, List, [], ◌∷◌, ◌++◌, ℕ, ◌-◌, leb, ℤ, Ok, length, take, drop}
use Rattle.outcome.specs.declared.Ending.TheVariants.{Done}
use Rattle.outcome.specs.Run.{Run, refused, done, and_then, Returned, returned, ended}
use Rattle.inputs.specs.Tests.{Test, slice, lengths, tested}
use Rattle.inputs.specs.System.{System}
use Rattle.text.specs.Parts.{fields, part, start_of}
use Rattle.text.specs.Text.{Head, head, reading}

-- the slices that are lent to be written to
pub record Lent : Type 0 where
  pub matrix : List ℤ
  pub right : List ℤ

abbrev pub lent : (matrix right : List ℤ) → Lent
lent m r = record { matrix = m; right = r }

-- test 2: they have room for 32 vats, exactly
abbrev pub room : Lent → Test
room s = lengths (slice 1 (length s.matrix) 2_048 ∷ slice 2 (length s.right) 64 ∷ [])

-- a slice with these at its beginning; what lies past them stays as lent
abbrev pub over : {A : Type 0} → List A → List A → List A
over s lent = s ++ drop (length s) lent

-- n is the count
abbrev pub filled : Lent → System → Returned Lent
filled s b = returned (Ok Done) b.size (lent (over b.matrix s.matrix) (over b.right s.right))

-- 'Tests run in the sequence 8, 1, 2, 4, 3, then the calculation': here 8, then 2
unfoldable pub read : List ℕ → Lent → Returned Lent
read text s = ended (filled s) s (and_then (reading text) (λ c. tested (room s) (done c.balance)))

-- ---- 'A vat's name is handed back as the very part of the text where it was read'
pub record Span : Type 0 where
  pub start : ℕ
  pub size : ℕ

abbrev pub bytes_of : List ℕ → Span → List ℕ
bytes_of text p = take p.size (drop p.start text)

-- 'an empty part of the text': it starts at the text's beginning
abbrev pub nowhere : Span
nowhere = record { start = 0; size = 0 }

-- 'if .. the vat number is outside 1 to n', which are the fields of line 1; that line begins where the text begins
abbrev pub field_span : List (List ℕ) → (component : ℕ) → Span
field_span fs v = cond (leb 1 v && leb v (length fs)) (record { start = start_of fs (v - 1); size = length (part fs (v - 1)) }) nowhere

-- 'if the text is too long, line 1 is faulty'
abbrev pub name_under : Run Head → (component : ℕ) → Span
name_under (refused o) v = nowhere
name_under (done h) v = field_span (fields h.names) v

unfoldable pub name_span : List ℕ → (component : ℕ) → Span
name_span text v = name_under (head text) v
