-- The sums of the two sides of the diagonal: with the diagonal share they are the whole row, and one new component changes one product.
use mathlib.Core.Path.{◌≡◌, refl, sym, ap, ◌∙◌}
use mathlib.Core.Logic.{◌≢◌}
use mathlib.Core.Bool.{Bool, true, false, not}
use mathlib.Core.List.{List}
use Prim.Native.Nat.{ℕ, zero, suc, ◌+◌, ◌-◌, ◌*◌, ◌≤◌, ◌<◌}
use native.Mathlib.Omega.{arith}
use native.Mathlib.Nat.{zero-add}
use native.Mathlib.Decide.{ℕ_discrete}
use lib.IntN.{ℤ, ◌+ℤ◌, ◌-ℤ◌}
use lib.ListN.{length}
use Rattle.integer.proofs.Linear.{reading, ring, over}
use Rattle.interval.specs.declared.Interval.{Interval}
use Rattle.interval.specs.Interval as interval
use Rattle.interval.specs.Interval.{ends, exact_sum, exact_product}
use Rattle.interval.proofs.Range.{same_ends}
use Rattle.inputs.specs.Place.{at, put, cell}
use Rattle.inputs.specs.System.{System}
use Rattle.inputs.proofs.Place.{at_put_same, at_put_other}
use Rattle.rows.specs.Sum.{exactly, once}
use Rattle.rows.proofs.Exact.{exactly_from, exactly_parts, exactly_shift}
use Rattle.sweep.specs.Pass.{component}
use Rattle.half_rows.specs.Rows.{first, beside, side, joined, exchanged}

-- ---- exact sums
-- the outer two of three change places
outer_two : (u v w : Interval) → exact_sum (exact_sum u v) w ≡ exact_sum (exact_sum w v) u
unfolding exact_sum
outer_two u v w = same_ends _ _ (go u.lo v.lo w.lo) (go u.hi v.hi w.hi)
  where
    go : (a b c : ℤ) → a +ℤ b +ℤ c ≡ c +ℤ b +ℤ a
    go = over 3 _ (λ ρ. simp reading (ring _ _ _ tt))

-- a new product in an old one's place
traded : (a n o t : Interval) → exact_sum (exact_sum a n) t ≡ exact_sum (exact_sum (exact_sum a o) t) (ends (n.lo -ℤ o.lo) (n.hi -ℤ o.hi))
unfolding exact_sum
traded a n o t = same_ends _ _ (go a.lo n.lo o.lo t.lo) (go a.hi n.hi o.hi t.hi)
  where
    go : (a n o t : ℤ) → a +ℤ n +ℤ t ≡ a +ℤ o +ℤ t +ℤ (n -ℤ o)
    go = over 4 _ (λ ρ. simp reading (ring _ _ _ tt))

-- ---- a row's products
module _ (m : List ℤ) (p : ℕ) (x : List ℤ) (q : ℕ) where
  -- a component that is not read
  exactly_other : (r : ℕ) (w : Interval) (d j : ℕ) (acc : Interval) → ((l : ℕ) → l < d → q + (j + l) ≢ r)
      → exactly m p (put x r w) q d j acc ≡ exactly m p x q d j acc
  unfolding exactly
  exactly_other r w zero j acc h = refl
  exactly_other r w (suc d) j acc h =
      let a : q + j ≢ r = λ e. h 0 (omega arith) (let f : q + (j + 0) ≡ q + j = omega arith in f ∙ e) in
      rw (at_put_other x r (q + j) w a)
      (exactly_other r w d (j + 1) _ (λ l g e. h (suc l) (omega arith) (let f : q + (j + suc l) ≡ q + (j + 1 + l) = omega arith in f ∙ e)))

-- a component that is read
module _ (m : List ℤ) (p : ℕ) (x : List ℤ) (r : ℕ) (w : Interval) (room : 2 * r + 1 < length x) where
  exactly_exchanged : (d j : ℕ) (acc : Interval) → j ≤ r → r < j + d
      → exactly m p (put x r w) 0 d j acc ≡ exchanged (at m (p + r)) (at x r) w (exactly m p x 0 d j acc)
  unfolding exactly exchanged
  exactly_exchanged zero j acc h k = absurd (omega arith)
  exactly_exchanged (suc d) j acc h k = go (ℕ_discrete j r) (λ f. exactly_exchanged d (j + 1) _ (omega (arith, f)) (omega arith))
    where
      new : Interval
      new = exact_product (at m (p + r)) w

      old : Interval
      old = exact_product (at m (p + r)) (at x r)

      change : Interval
      change = ends (new.lo -ℤ old.lo) (new.hi -ℤ old.hi)

      then : Interval
      then = exact_sum acc (exact_product (at m (p + j)) (at x (0 + j)))

      go : Dec (j ≡ r) → (j ≢ r → exactly m p (put x r w) 0 d (j + 1) then ≡ exact_sum (exactly m p x 0 d (j + 1) then) change)
          → exactly m p (put x r w) 0 d (j + 1) (exact_sum acc (exact_product (at m (p + j)) (at (put x r w) (0 + j)))) ≡ exact_sum (exactly m p x 0 d (j + 1) then) change
      go (yes e) f =
          let z : 0 + j ≡ r = omega arith in
          rw (z, e, at_put_same x r w room)
          (exactly_other m p x 0 r w d (r + 1) _ (λ l g q. absurd (omega arith))
          ∙ exactly_from m p x 0 d (r + 1) _ ∙ traded acc new old _
          ∙ ap (λ v. exact_sum v change) (sym (exactly_from m p x 0 d (r + 1) _)))
      go (no e) f = let z : 0 + j ≢ r = λ q. e (omega arith) in rw (at_put_other x r (0 + j) w z) (f e)

-- ---- one side of a row; which components it reads
abbrev pub Reads : (back : Bool) → (n i r : ℕ) → Type 0
Reads true n i r = (i < r) × (r < n)
Reads false n i r = r < i

abbrev pub Unread : (back : Bool) → (i r : ℕ) → Type 0
Unread true i r = r ≤ i
Unread false i r = i ≤ r

module _ (s : System) (X : List ℤ) (i : ℕ) where
  -- counted from the row's beginning
  side_row : (back : Bool) → side back s X i ≡ exactly s.matrix (i * s.size) X 0 (beside back s.size i) (first back i) interval.zero
  unfolding side
  side_row back =
      let k = first back i in
      let e : k + 0 ≡ k = omega arith in
      ap (λ (q : ℕ). exactly s.matrix (i * s.size + k) X q (beside back s.size i) 0 interval.zero) (sym (zero-add k))
      ∙ exactly_shift s.matrix (i * s.size) X 0 k (beside back s.size i) 0 interval.zero ∙ rw e

  -- the whole row: left of the diagonal, the diagonal share, right of it
  row_parts : i < s.size
      → exactly s.matrix (i * s.size) X 0 s.size 0 interval.zero ≡
      exact_sum (exact_sum (side false s X i) (exact_product (at s.matrix (cell s.size i i)) (at X i))) (side true s X i)
  unfolding first beside exactly
  row_parts h =
      let n = s.size in
      let p = i * n in
      let l = exactly s.matrix p X 0 i 0 interval.zero in
      let e : n ≡ i + suc (n - (i + 1)) = omega arith in
      rw (side_row false, side_row true)
      (ap (λ (d : ℕ). exactly s.matrix p X 0 d 0 interval.zero) e
      ∙ exactly_parts s.matrix p X 0 i (suc (n - (i + 1))) 0 interval.zero
      ∙ ap (λ (j : ℕ). exactly s.matrix p X 0 (suc (n - (i + 1))) j l) (zero-add i)
      ∙ exactly_from s.matrix p X 0 (n - (i + 1)) (i + 1) _
      ∙ ap (λ (z : ℕ). exact_sum (exact_sum l (exact_product (at s.matrix (p + i)) (at X z))) (exactly s.matrix p X 0 (n - (i + 1)) (i + 1) interval.zero)) (zero-add i))

  -- so the two sides, whichever is worked out, give the component
  pub component_joined : (back : Bool) → i < s.size → joined back s X i (side (not back) s X i) ≡ component once s X i
  unfolding joined component once
  component_joined true h = rw (outer_two (side true s X i) _ (side false s X i), ← (row_parts h))
  component_joined false h = rw (← (row_parts h))

-- ---- one new component
pub side_other : (s : System) (X : List ℤ) (i r : ℕ) (w : Interval) (back : Bool) → Unread back i r → side back s (put X r w) i ≡ side back s X i
unfolding side first beside
side_other s X i r w true h = exactly_other s.matrix _ X (i + 1) r w _ 0 interval.zero (λ l g e. absurd (omega arith))
side_other s X i r w false h = exactly_other s.matrix _ X 0 r w _ 0 interval.zero (λ l g e. absurd (omega arith))

pub side_exchanged : (s : System) (X : List ℤ) (i r : ℕ) (w : Interval) (back : Bool) → 2 * r + 1 < length X → Reads back s.size i r
    → side back s (put X r w) i ≡ exchanged (at s.matrix (cell s.size i r)) (at X r) w (side back s X i)
unfolding first beside
side_exchanged s X i r w true room h =
    rw (side_row s (put X r w) i true, side_row s X i true)
    (exactly_exchanged s.matrix (i * s.size) X r w room _ (i + 1) interval.zero (omega arith) (omega arith))
side_exchanged s X i r w false room h =
    rw (side_row s (put X r w) i false, side_row s X i false)
    (exactly_exchanged s.matrix (i * s.size) X r w room _ 0 interval.zero (omega arith) (omega arith))
