-- What a state reads after its parts were written.
use mathlib.Core.Path.{◌≡◌, sym, ap, ap₂, ◌∙◌}
use mathlib.Core.Logic.{inl, inr}
use mathlib.Core.Bool.{Bool, true, false}
use mathlib.Core.List.{List}
use Prim.Native.Nat.{ℕ, ◌+◌, ◌*◌, ◌≤◌, ◌<◌}
use native.Mathlib.Omega.{arith}
use borrow.Author.Tests.{eq-eqb}
use lib.Dec.{le→leb}
use lib.IntN.{ℤ, pos}
use lib.ListN.{get_or, length, length-set}
use lib.Seq.{get_or-set_same, get_or-set_other}
use Rattle.integer.proofs.Order.{yes_le}
use Rattle.inputs.specs.System.{System, system}
use Rattle.inputs.proofs.Tests.{square}
use Rattle.half_rows.specs.Rows.{part}
use Rattle.half_rows.specs.State.{state_length, up_to, size_of, turn_of, box_of, system_of, sums_place, sums_of, placed, due, with_turn, with_box, with_sums, with_system}
use Rattle.half_rows_afresh.proofs.Parts.{length_part, part_set, length_placed, number_before, part_placed, part_beside}

-- ---- n and the turn
up_to_lem : (k n : ℕ) → 1 ≤ n → n ≤ k → up_to k (pos n) ≡ n
unfolding up_to
up_to_lem k n h l = rw (yes_le (pos 1) (pos n) (record { le = le→leb 1 n h }), yes_le (pos n) (pos k) (record { le = le→leb n k l }))

size_is : (t : List ℤ) (n : ℕ) → length t ≡ state_length → get_or t 0 (pos 0) ≡ pos n → 1 ≤ n → n ≤ 32 → size_of t ≡ n
unfolding size_of
size_is t n l e h k = rw (eq-eqb (length t) state_length l, e) (up_to_lem 32 n h k)

pub size_none : (t : List ℤ) → length t ≡ state_length → get_or t 0 (pos 0) ≡ pos 0 → size_of t ≡ 0
unfolding size_of up_to
size_none t l e = rw (eq-eqb (length t) state_length l, e)

size_same : (t u : List ℤ) → length t ≡ length u → get_or t 0 (pos 0) ≡ get_or u 0 (pos 0) → size_of t ≡ size_of u
unfolding size_of
size_same t u l e = rw (l, e)

turn_same : (t u : List ℤ) → get_or t 1 (pos 0) ≡ get_or u 1 (pos 0) → turn_of t ≡ turn_of u
unfolding turn_of
turn_same t u e = rw e

due_few : (back : Bool) → (1 ≤ due back) × (due back ≤ 2)
unfolding due
due_few true = omega arith
due_few false = omega arith

-- ---- another turn
module _ (t : List ℤ) (back : Bool) where
  pub turned_length : length (with_turn t back) ≡ length t
  turned_length = length-set t 1 (pos (due back))

  pub turned_size : size_of (with_turn t back) ≡ size_of t
  turned_size = size_same (with_turn t back) t turned_length (get_or-set_other t 1 0 (pos (due back)) (pos 0) (omega arith))

  pub turned_turn : 1 < length t → turn_of (with_turn t back) ≡ due back
  unfolding turn_of
  turned_turn h = rw (get_or-set_same t 1 (pos (due back)) (pos 0) h) (up_to_lem 2 (due back) (due_few back).0 (due_few back).1)

  pub turned_part : (from count : ℕ) → 1 < from → part (with_turn t back) from count ≡ part t from count
  turned_part from count h = part_set t from count 1 (pos (due back)) h

-- ---- another box, and other sums of one side
pub sums_between : (back : Bool) → (130 ≤ sums_place back) × (sums_place back ≤ 258)
unfolding sums_place
sums_between true = omega arith
sums_between false = omega arith

pub length_sums : (back : Bool) (t : List ℤ) (n : ℕ) → length t ≡ state_length → n ≤ 32 → length (sums_of back t n) ≡ 4 * n
length_sums back t n l few = let p = sums_between back in length_part t (sums_place back) (4 * n) (omega arith)

module _ (t : List ℤ) (n : ℕ) (l : length t ≡ state_length) (few : n ≤ 32) (back : Bool) (X K : List ℤ) (lx : length X ≡ 2 * n) (lk : length K ≡ 4 * n) where
  with_box_lem : length (with_box t X) ≡ state_length
  with_box_lem = length_placed t 2 X (omega arith) ∙ l

  sums_fit : sums_place back + length K ≤ length (with_box t X)
  sums_fit = let p = sums_between back in omega (arith, with_box_lem)

  pub written_length : length (with_sums (with_box t X) back K) ≡ state_length
  written_length = length_placed (with_box t X) (sums_place back) K sums_fit ∙ with_box_lem

  written_number : (i : ℕ) → i < 2 → get_or (with_sums (with_box t X) back K) i (pos 0) ≡ get_or t i (pos 0)
  written_number i h =
      let p = sums_between back in
      number_before (with_box t X) (sums_place back) K sums_fit i (omega arith) ∙ number_before t 2 X (omega arith) i h

  pub written_size : size_of (with_sums (with_box t X) back K) ≡ size_of t
  written_size = size_same _ t (written_length ∙ sym l) (written_number 0 (omega arith))

  pub written_turn : turn_of (with_sums (with_box t X) back K) ≡ turn_of t
  written_turn = turn_same _ t (written_number 1 (omega arith))

  pub written_box : box_of (with_sums (with_box t X) back K) n ≡ X
  written_box =
      let p = sums_between back in
      part_beside (with_box t X) (sums_place back) K sums_fit 2 (2 * n) (inl (omega arith))
      ∙ ap (part (with_box t X) 2) (sym lx) ∙ part_placed t 2 X (omega arith)

  pub written_sums : sums_of back (with_sums (with_box t X) back K) n ≡ K
  written_sums = ap (part (with_sums (with_box t X) back K) (sums_place back)) (sym lk) ∙ part_placed (with_box t X) (sums_place back) K sums_fit

  pub written_system : system_of (with_sums (with_box t X) back K) n ≡ system_of t n
  written_system =
      let p = sums_between back in
      ap₂ (system n)
      (part_beside (with_box t X) (sums_place back) K sums_fit 386 (2 * (n * n)) (inr (omega arith)) ∙ part_beside t 2 X (omega arith) 386 (2 * (n * n)) (inr (omega arith)))
      (part_beside (with_box t X) (sums_place back) K sums_fit 66 (2 * n) (inl (omega arith)) ∙ part_beside t 2 X (omega arith) 66 (2 * n) (inr (omega arith)))

-- ---- another system
abbrev with_matrix : List ℤ → System → List ℤ
with_matrix t s = placed t 386 s.matrix

abbrev with_right : List ℤ → System → List ℤ
with_right t s = placed (with_matrix t s) 66 s.right

module _ (t : List ℤ) (s : System) (l : length t ≡ state_length) (few : s.size ≤ 32) (lm : length s.matrix ≡ 2 * (s.size * s.size)) (lr : length s.right ≡ 2 * s.size) where
  matrix_fits : 386 + length s.matrix ≤ length t
  matrix_fits = omega (arith, square s.size few)

  matrix_length : length (with_matrix t s) ≡ state_length
  matrix_length = length_placed t 386 s.matrix matrix_fits ∙ l

  right_fits : 66 + length s.right ≤ length (with_matrix t s)
  right_fits = omega (arith, matrix_length)

  right_length : length (with_right t s) ≡ state_length
  right_length = length_placed (with_matrix t s) 66 s.right right_fits ∙ matrix_length

  pub system_length : length (with_system t s) ≡ state_length
  system_length = length-set (with_right t s) 0 (pos s.size) ∙ right_length

  pub system_size : 1 ≤ s.size → size_of (with_system t s) ≡ s.size
  system_size h =
      size_is (with_system t s) s.size system_length (get_or-set_same (with_right t s) 0 (pos s.size) (pos 0) (omega (arith, right_length))) h few

  pub system_system : system_of (with_system t s) s.size ≡ s
  system_system =
      let n = s.size in
      ap₂ (system n)
      (part_set (with_right t s) 386 (2 * (n * n)) 0 (pos n) (omega arith)
      ∙ part_beside (with_matrix t s) 66 s.right right_fits 386 (2 * (n * n)) (inr (omega arith))
      ∙ ap (part (with_matrix t s) 386) (sym lm) ∙ part_placed t 386 s.matrix matrix_fits)
      (part_set (with_right t s) 66 (2 * n) 0 (pos n) (omega arith)
      ∙ ap (part (with_right t s) 66) (sym lr) ∙ part_placed (with_matrix t s) 66 s.right right_fits)
