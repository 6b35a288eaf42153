-- The half row of a row: where it lies, and that its sums are the row's.
use mathlib.Core.Path.{◌≡◌, refl, ap, ap₂, subst, ◌∙◌}
use mathlib.Core.Bool.{Bool, true, false, ◌&&◌}
use mathlib.Core.List.{List}
use Prim.Native.Nat.{ℕ, zero, suc, ◌+◌, ◌-◌, ◌*◌, ◌≤◌, ◌<◌}
use native.Mathlib.Omega.{arith}
use lib.IntN.{ℤ, pos}
use lib.ListN.{get_or, take, drop}
use lib.Seq.{get_or-take, get_or-drop}
use Rattle.std.specs.Prelude.{Option, is_ok}
use Rattle.interval.specs.declared.Interval.{Interval}
use Rattle.interval.specs.Interval.{zero as zeroInterval, scale, exact_sum, exact_product, rounded, intersection}
use Rattle.interval.proofs.Range.{same_ends}
use Rattle.inputs.specs.Place.{at, cell}
use Rattle.inputs.specs.Tests.{Test, proper}
use Rattle.inputs.specs.System.{System, system}
use Rattle.wide_sum.specs.declared.WideInterval.{WideInterval}
use Rattle.inputs.proofs.Tests.{rows_apart, square}
use Rattle.rows.specs.Sum.{exactly}
use Rattle.rows.proofs.Exact.{one_product}
use Rattle.half_rows.specs.Rows.{first, beside, begin, part, half_row, side, joined}
use Rattle.half_rows.specs.Code.{side_on, joined_on, Stepped}

-- ---- where the half row of row i lies, and what it has beside the diagonal
pub record Spans (n i from first beside : ℕ) : Type 0 where
  pub begins : from ≤ first
  pub diagonal : from ≤ i
  pub few : beside < n
  pub beside_in : first - from + beside ≤ beside + 1
  pub diagonal_in : i - from + 1 ≤ beside + 1
  pub box : first + beside ≤ n
  pub row : from + (beside + 1) ≤ n

pub spans : (back : Bool) (n i : ℕ) {f q d : ℕ} → f ≡ begin back i → q ≡ first back i → d ≡ beside back n i → i < n → Spans n i f q d
unfolding first beside begin
spans true n i e f g h =
    rw (e, f, g)
    (record { begins = omega arith; diagonal = omega arith; few = omega arith; beside_in = omega arith; diagonal_in = omega arith; box = omega arith; row = omega arith })
spans false n i e f g h =
    rw (e, f, g)
    (record { begins = omega arith; diagonal = omega arith; few = omega arith; beside_in = omega arith; diagonal_in = omega arith; box = omega arith; row = omega arith })

-- the half row ends within the n rows
pub half_end : (back : Bool) (n i : ℕ) {f d : ℕ} → f ≡ begin back i → d ≡ beside back n i → i < n → n ≤ 32 → (i * n + f + (d + 1) ≤ n * n) × (n * n ≤ 1024)
half_end back n i e g h k = let w = spans back n i e refl g h in (omega (arith, w.row, rows_apart n i n h), square n k)

-- ---- a part of a list of intervals
pub at_part : (m : List ℤ) (p l r : ℕ) → r < l → at (part m (2 * p) (2 * l)) r ≡ at m (p + r)
unfolding at
at_part m p l r h = same_ends _ _ (go (2 * r) (2 * (p + r)) (omega arith) (omega arith)) (go (2 * r + 1) (2 * (p + r) + 1) (omega arith) (omega arith))
  where
    go : (a b : ℕ) → a < 2 * l → 2 * p + a ≡ b → get_or (part m (2 * p) (2 * l)) a (pos 0) ≡ get_or m b (pos 0)
    go a b k e = get_or-take (2 * l) (drop (2 * p) m) a (pos 0) k ∙ get_or-drop (2 * p) m a (pos 0) ∙ ap (λ z. get_or m z (pos 0)) e

pub exactly_part : (m : List ℤ) (p l k : ℕ) (x : List ℤ) (q d j : ℕ) (acc : Interval) → k + (j + d) ≤ l
    → exactly (part m (2 * p) (2 * l)) k x q d j acc ≡ exactly m (p + k) x q d j acc
unfolding exactly
exactly_part m p l k x q zero j acc h = refl
exactly_part m p l k x q (suc d) j acc h =
    let e : p + (k + j) ≡ p + k + j = omega arith in
    rw (at_part m p l (k + j) (omega arith), e) (exactly_part m p l k x q d (j + 1) _ (omega arith))

-- ---- the sums of the half row are the row's
module _ (back : Bool) (s : System) (X : List ℤ) (i : ℕ) (h : i < s.size) where
  w : Spans s.size i (begin back i) (first back i) (beside back s.size i)
  w = spans back s.size i refl refl refl h

  pub side_half : side_on back s.size (half_row back s i) X i ≡ side back s X i
  unfolding side_on side half_row
  side_half =
      let e : cell s.size i (begin back i) + (first back i - begin back i) ≡ cell s.size i (first back i) = omega (arith, w.begins) in
      exactly_part s.matrix (cell s.size i (begin back i)) (beside back s.size i + 1) (first back i - begin back i) X (first back i) (beside back s.size i) 0 zeroInterval (omega (arith, w.beside_in))
      ∙ ap (λ p. exactly s.matrix p X (first back i) (beside back s.size i) 0 zeroInterval) e

  diagonal_half : at (half_row back s i) (i - begin back i) ≡ at s.matrix (cell s.size i i)
  unfolding half_row
  diagonal_half =
      let e : cell s.size i (begin back i) + (i - begin back i) ≡ cell s.size i i = omega (arith, w.diagonal) in
      at_part s.matrix (cell s.size i (begin back i)) (beside back s.size i + 1) (i - begin back i) (omega (arith, w.diagonal_in)) ∙ ap (at s.matrix) e

  pub joined_half : (k : Interval) → joined_on back s.size (half_row back s i) s.right X i k ≡ joined back s X i k
  unfolding joined_on joined
  joined_half k =
      ap (λ u. intersection (exact_sum (at s.right i) (rounded scale (exact_sum u k))) (at X i))
      (one_product (half_row back s i) (i - begin back i) X i _ ∙ ap₂ (λ u v. exact_sum u (exact_product v (at X i))) side_half diagonal_half)

-- as the code has it
pub half_is : (back : Bool) (n i : ℕ) (m r : List ℤ) {f d : ℕ} → f ≡ begin back i → d ≡ beside back n i
    → take (2 * (i * n + f + (d + 1)) - 2 * (i * n + f)) (drop (2 * (i * n + f)) m) ≡ half_row back (system n m r) i
unfolding half_row
half_is back n i m r {f} {d} e g =
    let l : 2 * (i * n + f + (d + 1)) - 2 * (i * n + f) ≡ 2 * (d + 1) = omega arith in
    rw (l, e, g)

-- ---- a row's answer
pub not_tested : (t : Test) (b : Bool) → is_ok t ≡ false → (is_ok t && b) ≡ false
not_tested t b e = rw e

pub stepped_half : (back : Bool) (sys : System) (X : List ℤ) (i : ℕ) → i < sys.size → (b : Bool) (k : Interval) (s : Option (Interval × WideInterval)) → {h : List ℤ} → h ≡ half_row back sys i
    → Stepped (proper h (beside back sys.size i + 1) 0 0) b (joined_on back sys.size h sys.right X i k) (side_on back sys.size h X i) s
    → Stepped (proper (half_row back sys i) (beside back sys.size i + 1) 0 0) b (joined back sys X i k) (side back sys X i) s
stepped_half back sys X i l b k s e h =
    subst (λ (v : Interval). Stepped (proper (half_row back sys i) (beside back sys.size i + 1) 0 0) b v (side back sys X i) s) (joined_half back sys X i l k)
    (subst (λ (u : Interval). Stepped (proper (half_row back sys i) (beside back sys.size i + 1) 0 0) b (joined_on back sys.size (half_row back sys i) sys.right X i k) u s) (side_half back sys X i l)
    (subst (λ (g : List ℤ). Stepped (proper g (beside back sys.size i + 1) 0 0) b (joined_on back sys.size g sys.right X i k) (side_on back sys.size g X i) s) e h))

-- ---- the sums, as the code has them
module _ (back : Bool) (n i : ℕ) (h r X : List ℤ) {f : ℕ} (ef : f ≡ begin back i) where
  pub side_is : {q d : ℕ} {z w : Interval} → q ≡ first back i → d ≡ beside back n i → z ≡ zeroInterval → w ≡ exactly h (q - f) X q d 0 z → w ≡ side_on back n h X i
  unfolding side_on
  side_is eq ed e g = rw (g, e, ef, eq, ed)

  pub joined_is : (k : Interval) {w u c : Interval} → w ≡ side_on back n h X i → u ≡ exactly h (i - f) X i 1 0 w
      → c ≡ intersection (exact_sum (at r i) (rounded scale (exact_sum u k))) (at X i) → c ≡ joined_on back n h r X i k
  unfolding joined_on
  joined_is k e g j = rw (j, g, e, ef)
