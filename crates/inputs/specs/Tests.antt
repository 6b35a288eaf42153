-- Document 01, Outcomes: the tests 1, 2 and 3 that precede every calculation. 'Each test before the calculation returns the
-- lowest place at which it fails.'
use Rattle.std.specs.Prelude.{Bool, cond, ◌&&◌, List, [], ◌∷◌, ℕ, zero, suc, ◌+◌, leb, eqb, ℤ, Result, Ok, Err}
use Rattle.outcome.specs.declared.Refusal.{Refusal}
use Rattle.outcome.specs.declared.Refusal.TheVariants as refusal
use Rattle.outcome.specs.Run.{Run, refused}
use Rattle.interval.specs.Interval.{acceptable}
use Rattle.inputs.specs.declared.Slice.{Slice}
use Rattle.inputs.specs.Place.{at}

-- what a test before a calculation says: nothing, or why the call is refused
abbrev pub Test : Type 0
Test = Result (Unit {0}) Refusal

-- a second test counts where the first passes
unfoldable pub both : Test → Test → Test
both (Ok _) t = t
both (Err o) t = Err o

unfoldable pub need : Bool → Refusal → Test
need ok o = cond ok (Ok tt) (Err o)

-- 'n is 0 or above 32'
unfoldable pub sized : ℕ → Test
sized n = need (leb 1 n && leb n 32) refusal.Size

-- a lent slice: its place in the table, how many numbers it holds, how many are wanted
abbrev pub slice : (place held wanted : ℕ) → Slice
slice p h w = record { place = p; held = h; wanted = w }

-- 'that slice has the wrong length; lowest place first'
unfoldable pub lengths : List Slice → Test
lengths [] = Ok tt
lengths (s ∷ ss) = both (need (eqb s.held s.wanted) (refusal.Length s.place)) (lengths ss)

-- tests 1 and 2
unfoldable pub sizes : (n : ℕ) → List Slice → Test
sizes n ss = both (sized n) (lengths ss)

-- 'ends out of sequence or out of the range; intervals counted from 0': those of t at p, p + 1, .., d of them, at positions from + p and on
unfoldable pub proper : List ℤ → (d p from : ℕ) → Test
proper t zero p from = Ok tt
proper t (suc d) p from = both (need (acceptable (at t p)) (refusal.Ends (from + p))) (proper t d (p + 1) from)

-- 'through matrix, right side, start box': the numbers of several slices, each with its intervals
pub record Part : Type 0 where
  pub numbers : List ℤ
  pub count : ℕ

unfoldable pub all_proper : ℕ → List Part → Test
all_proper from [] = Ok tt
all_proper from (s ∷ ss) = both (proper s.numbers s.count 0 from) (all_proper (from + s.count) ss)

-- 'then the calculation'
unfoldable pub tested : {A : Type 0} → Test → Run A → Run A
tested (Ok _) r = r
tested (Err o) r = refused o
