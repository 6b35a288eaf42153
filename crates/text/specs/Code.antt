-- What functions beneath the calls promise each other; no public promise rests on these.
use Rattle.std.specs.Prelude.{◌≡◌, Bool, cond, not, ◌&&◌, List, [], ◌∷◌, ℕ, ◌+◌, ◌*◌, ◌≤◌, ◌<◌, eqb, ℤ, length, take, drop, Option, Some, None, option_map, IfSome, Result, Ok, Err}
use Rattle.std.specs.List.{list_any}
use Rattle.outcome.specs.declared.Refusal.{Refusal}
use Rattle.outcome.specs.Run.{Run, refused, done, Returned, ended}
use Rattle.interval.specs.declared.Interval.{Interval}
use Rattle.inputs.specs.Tests.{tested}
use Rattle.inputs.specs.System.{System, system}
use Rattle.search.specs.Word.{packed}
use Rattle.text.specs.declared.internal.lines.Heading.{Heading}
use Rattle.text.specs.Parts.{parts, fields}
use Rattle.text.specs.Names.{is_name, are_names}
use Rattle.text.specs.Text as text
use Rattle.text.specs.Text.{Cellar}
use Rattle.text.specs.Call.{Lent, room, filled}

-- ---- values
-- both ends of an interval, lower then upper
abbrev pub both : Interval → List ℤ
both v = v.lo ∷ v.hi ∷ []

-- the numbers zs, if something was read
abbrev pub only_if : Option (Unit {0}) → List ℤ → Option (List ℤ)
only_if r zs = option_map (λ _. zs) r

-- ---- a line of names
unfoldable pub names_of : List ℕ → Option ℕ
names_of l = cond (are_names (fields l)) (Some (length (fields l))) None

-- 32 names at most, of 16 bytes at most, and the bytes between them
abbrev pub Few : List ℕ → Option ℕ → Type 0
Few l r = IfSome r (λ n. (1 ≤ n) × (n ≤ 32) × (length l ≤ 543))

-- a name, and none of those that are the numbers cs: a name has 16 bytes at most and no byte 0, so different names are different numbers
unfoldable pub is_new : (cs p : List ℕ) → Bool
is_new cs p = is_name p && not (list_any (λ c. eqb c (packed p)) cs)

-- ---- line 1 of a text
pub record Headed (s : List ℕ) (h : Heading) : Type 0 where
  pub is : text.head s ≡ done (record { names = take h.stop s; rest = parts 10 (drop (h.stop + 1) s) })
  pub counted : h.count ≡ length (fields (take h.stop s))
  pub some : 1 ≤ h.count
  pub few : h.count ≤ 32
  pub short : h.stop ≤ 543
  pub inside : h.stop < length s

abbrev pub Heads : List ℕ → Result Heading Refusal → Type 0
Heads s (Ok h) = Headed s h
Heads s (Err o) = text.head s ≡ refused o

-- ---- the whole text: the balance of which the numbers stand at the beginning of t
abbrev pub system_of : (n : ℕ) → List ℤ → System
system_of n t = system n (take (2 * (n * n)) t) (take (2 * n) (drop (2 * (n * n)) t))

abbrev pub reading_is : List ℕ → Result Heading Refusal → List ℤ → Run Cellar
reading_is s (Ok h) t = done (record { names = take h.stop s; balance = system_of h.count t })
reading_is s (Err o) t = refused o

-- test 2, and then the numbers handed out
unfoldable pub handed : (n : ℕ) → List ℤ → Lent → Returned Lent
handed n t s = ended (filled s) s (tested (room s) (done (system_of n t)))
