-- Document 02, A7: 'Elimination and sweeps from the list give the same outcome as from the square it stands for.'
use Rattle.std.specs.Prelude.{List, [], ◌∷◌, ℕ, ℤ, length}
use Rattle.outcome.specs.Run.{Run, Returned, written, ended}
use Rattle.inputs.specs.Tests.{Test, both, tested}
use Rattle.rows.specs.Sum.{once}
use Rattle.forward.specs.Pivot.{lowest_row}
use Rattle.elimination.specs.Call.{run_B}
use Rattle.sweep.specs.Call.{Log, allowance}
use Rattle.sweep.specs.Calls.{Call, sweep_call, symmetric_call, run, returned_by}
use Rattle.transfers.specs.Listing.{Listing, sizes, entries, intervals, squared}

-- 11 and 12 'stand after 4 and before 3'. An elimination has no 4, and of its box only the length is tested
unfoldable pub tests : Listing → (boxLength : ℕ) → Test
tests s l = both (sizes s l) (both (entries s.size s.transfers) (intervals s []))

unfoldable pub sweep_tests : Listing → (allowed : ℕ) → List ℤ → Test
sweep_tests s k X =
    both (sizes s (length X))
    (both (allowance k) (both (entries s.size s.transfers) (intervals s (record { numbers = X; count = s.size } ∷ []))))

-- elimination from a list: its own tests, then the square's run
unfoldable pub run_list : Listing → (boxLength : ℕ) → Run (List ℤ)
run_list s l = tested (tests s l) (run_B lowest_row once (squared s) l)

abbrev pub over_list : Listing → (box : List ℤ) → Returned (List ℤ)
over_list s X = ended written X (run_list s (length X))

-- a sweep call of either kind from a list
abbrev pub allowed_of : Call → ℕ
allowed_of (sweep_call k) = k
allowed_of (symmetric_call k) = k

unfoldable pub sweep_list : Listing → Call → List ℤ → Run Log
sweep_list s c X = tested (sweep_tests s (allowed_of c) X) (run (squared s) c X)

abbrev pub call_list : Listing → Call → List ℤ → Returned (List ℤ)
call_list s = returned_by (sweep_list s)
