-- Document 02, A6: the state, 2,434 numbers that the caller lends. Each part's place stands here and, in the code, in state.rt.
use Rattle.std.specs.Prelude.{Bool, cond, ◌&&◌, List, ℕ, ◌*◌, eqb, ℤ, pos, nat_abs, length, get_or, set, replicate}
use Rattle.std.proofs.Math.Seq.{paste}
use Rattle.std.specs.Int.Signed.{le_z}
use Rattle.inputs.specs.System.{System, system}
use Rattle.half_rows.specs.Rows.{part}

abbrev pub state_length : ℕ
state_length = 2_434

-- 'the empty one', in which nothing is loaded
abbrev pub empty : List ℤ
empty = replicate state_length (pos 0)

-- a number from 1 to k, or else 0
unfoldable pub up_to : (k : ℕ) → ℤ → ℕ
up_to k z = cond (le_z (pos 1) z && le_z z (pos k)) (nat_abs z) 0

-- ---- the parts: n, or 0 where nothing is loaded; the half pass that is due, 1 up and 2 down
unfoldable pub size_of : List ℤ → ℕ
size_of t = cond (eqb (length t) state_length) (up_to 32 (get_or t 0 (pos 0))) 0

unfoldable pub turn_of : List ℤ → ℕ
turn_of t = up_to 2 (get_or t 1 (pos 0))

-- the box, the system, the sums left and right of the diagonal, all of n components
abbrev pub box_of : List ℤ → (n : ℕ) → List ℤ
box_of t n = part t 2 (2 * n)

abbrev pub system_of : List ℤ → (n : ℕ) → System
system_of t n = system n (part t 386 (2 * (n * n))) (part t 66 (2 * n))

unfoldable pub sums_place : (back : Bool) → ℕ
sums_place back = cond back 258 130

abbrev pub sums_of : (back : Bool) → List ℤ → (n : ℕ) → List ℤ
sums_of back t n = part t (sums_place back) (4 * n)

-- ---- the state with other parts
abbrev pub placed : List ℤ → (from : ℕ) → List ℤ → List ℤ
placed t from u = paste t from u (length u)

unfoldable pub due : (back : Bool) → ℕ
due back = cond back 2 1

abbrev pub with_turn : List ℤ → (back : Bool) → List ℤ
with_turn t back = set t 1 (pos (due back))

abbrev pub with_box : List ℤ → (X : List ℤ) → List ℤ
with_box t X = placed t 2 X

abbrev pub with_sums : List ℤ → (back : Bool) → (K : List ℤ) → List ℤ
with_sums t back K = placed t (sums_place back) K

abbrev pub with_system : List ℤ → System → List ℤ
with_system t s = set (placed (placed t 386 s.matrix) 66 s.right) 0 (pos s.size)
