-- Document 02, A2: 'The box is b widened by the reach', and the call.
use Rattle.std.specs.Prelude.{Bool, true, cond, ◌&&◌, List, ℕ, zero, suc, ◌+◌, ℤ, ◌+ℤ◌, ◌-ℤ◌, length}
use Rattle.outcome.specs.declared.Refusal.TheVariants as refusal
use Rattle.outcome.specs.Run.{Run, refused, done, and_then, Returned, written, ended}
use Rattle.interval.specs.declared.Interval.{Interval}
use Rattle.interval.specs.Interval.{ends, in_range}
use Rattle.inputs.specs.Tests.{tested}
use Rattle.inputs.specs.Place.{at, numbers}
use Rattle.inputs.specs.System.{System, tests}
use Rattle.start_box.specs.Reach.{reach}

-- component i of b, widened by r
unfoldable pub widened : (b : List ℤ) (r : ℤ) → (i : ℕ) → Interval
widened b r i = ends ((at b i).lo -ℤ r) ((at b i).hi +ℤ r)

-- each of f(i), f(i + 1), .., d of them, is in the range
unfoldable pub all_in_range : (ℕ → Interval) → (d i : ℕ) → Bool
all_in_range f zero i = true
all_in_range f (suc d) i = in_range (f i) && all_in_range f d (i + 1)

-- 'A dividend, quotient or end out of the range is 6, place 0'
unfoldable pub box_around : (n : ℕ) (b : List ℤ) (r : ℤ) → Run (List ℤ)
box_around n b r = cond (all_in_range (widened b r) n 0) (done (numbers (widened b r) n 0)) (refused (refusal.OutOfRange 0))

-- what follows the tests 1, 2 and 3: 10 comes 'after 3 and before the calculation'
unfoldable pub begun : System → Run (List ℤ)
begun s = and_then (reach s) (box_around s.size s.right)

-- of the lent box only the length is tested; it is written on 0 only, and the count is 0
unfoldable pub run : System → (boxLength : ℕ) → Run (List ℤ)
run s l = tested (tests s l) (begun s)

abbrev pub start_box : System → (box : List ℤ) → Returned (List ℤ)
start_box s X = ended written X (run s (length X))
