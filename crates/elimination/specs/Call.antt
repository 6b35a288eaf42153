-- Document 01, Elimination: 'There are two calls: one takes A and f; the other takes B and b.'
use Rattle.std.specs.Prelude.{List, ◌++◌, ℕ, ◌+◌, ◌*◌, ℤ, pos, length, take, drop, replicate}
use Rattle.outcome.specs.Run.{Run, done, and_then, Returned, written, ended}
use Rattle.inputs.specs.Tests.{tested}
use Rattle.inputs.specs.System.{System, tests}
use Rattle.rows.specs.Sum.{RowSum, once}
use Rattle.forward.specs.Pivot.{Pivoting, lowest_row}
use Rattle.forward.specs.Forward.{table, forward}
use Rattle.elimination.specs.Back.{back}
use Rattle.forward.specs.Formed.{formed_rows}

-- 'It holds its own copy of up to 2,112 numbers': both lent slices, one after the other. What is left of the 2,112 is never read
unfoldable pub copied : System → List ℤ
copied s = s.matrix ++ (s.right ++ drop (length s.matrix + length s.right) (replicate 2_112 (pos 0)))

-- the right side's numbers, where the solution stands at the end
unfoldable pub box : (n : ℕ) → List ℤ → List ℤ
box n t = take (2 * n) (drop (2 * (n * n)) t)

-- no step has taken a row yet
abbrev pub none_taken : List ℤ
none_taken = replicate 32 (pos 0)

unfoldable pub solved : Pivoting → RowSum → (n : ℕ) → List ℤ → Run (List ℤ)
solved p sum n t = and_then (forward p n (table t none_taken)) (λ s. and_then (back sum n n s.numbers) (λ t₁. done (box n t₁)))

-- the runs over A and f, and over B and b, with the pivoting and the row sum that are given. 'Neither reads what its lent box holds':
-- they are given its length
unfoldable pub run_A : Pivoting → RowSum → System → (boxLength : ℕ) → Run (List ℤ)
run_A p sum s l = tested (tests s l) (solved p sum s.size (copied s))

unfoldable pub run_B : Pivoting → RowSum → System → (boxLength : ℕ) → Run (List ℤ)
run_B p sum s l = tested (tests s l) (and_then (formed_rows s.size s.size 0 (copied s)) (λ t. solved p sum s.size t))

-- what they return, and what they leave in the lent box: 'writes the box only when all is done'; document 01 has no count for an elimination, it is 0
abbrev pub ended_A : Pivoting → RowSum → System → (box : List ℤ) → Returned (List ℤ)
ended_A p sum s X = ended written X (run_A p sum s (length X))

abbrev pub ended_B : Pivoting → RowSum → System → (box : List ℤ) → Returned (List ℤ)
ended_B p sum s X = ended written X (run_B p sum s (length X))

-- the two calls as they are: the lowest row that serves, and each row of back-substitution rounded once
abbrev pub over_A : System → (box : List ℤ) → Returned (List ℤ)
over_A = ended_A lowest_row once

abbrev pub over_B : System → (box : List ℤ) → Returned (List ℤ)
over_B = ended_B lowest_row once
