-- The square of a list that passed its tests is a matrix that passes its own.
use mathlib.Core.Path.{◌≡◌, refl, sym, ap, ◌∙◌}
use mathlib.Core.Bool.{true}
use mathlib.Core.List.{List, [], ◌∷◌, ◌++◌}
use Prim.Native.Nat.{ℕ, zero, suc, ◌+◌, ◌*◌, ◌≤◌, ◌<◌}
use native.Mathlib.Omega.{arith}
use native.Mathlib.Decide.{dec_lt}
use borrow.Author.Tests.{eq-eqb}
use lib.IntN.{ℤ, pos}
use lib.ListN.{length, take, replicate, get_or, length-replicate, get_or-replicate, get_or-eq_default, set, drop, length-set, take-append-drop}
use lib.Seq.{set-append_left}
use Rattle.interval.specs.declared.Interval.{Interval}
use Rattle.interval.specs.Interval.{acceptable}
use Rattle.std.specs.Prelude.{Ok}
use Rattle.inputs.specs.Place.{put}
use Rattle.inputs.specs.Tests.{both, need, lengths, sizes, proper, Part, all_proper}
use Rattle.inputs.specs.System.{slices, parts, tests}
use Rattle.inputs.specs.Code.{Sound}
use Rattle.inputs.proofs.Tests.{sized_yes, proper_all}
use Rattle.inputs.proofs.Place.{cell_before, length_put, sound_put, sound_noughts, proper_sound}
use Rattle.sweep.specs.Call as sweep
use Rattle.transfers.specs.declared.Transfer.{Transfer}
use Rattle.transfers.specs.Listing.{Listing, nth, share, both_components, place_of, filled, square, squared}
use Rattle.transfers.proofs.Component.{component, component_row, receiver, giver}
use Rattle.transfers.proofs.Tried.{tried_each}
use Rattle.transfers.proofs.Judged.{Passed}
use Rattle.transfers.proofs.Sizes.{Fitting}

pub place_below : (n : ℕ) (t : Transfer) → both_components n t ≡ true → place_of n t < n * n
unfolding place_of
place_below n t e =
    let r = component n t.receiver (receiver n t e) in
    let g = component n t.giver (giver n t e) in
    rw (component_row r, component_row g) (cell_before n r.row g.row r.below g.below)

pub length_filled : (n : ℕ) (ts : List Transfer) (d k : ℕ) (m : List ℤ) → length (filled n ts d k m) ≡ length m
unfolding filled
length_filled n ts zero k m = refl
length_filled n ts (suc d) k m = length_filled n ts d (k + 1) (put m (place_of n (nth ts k)) (share (nth ts k))) ∙ length_put m (place_of n (nth ts k)) (share (nth ts k))

pub length_square : (n : ℕ) (ts : List Transfer) → length (square n ts) ≡ 2 * (n * n)
unfolding square
length_square n ts = length_filled n ts (length ts) 0 (replicate (2 * (n * n)) (pos 0)) ∙ length-replicate (2 * (n * n)) (pos 0)

-- ---- noughts
pub noughts : (n i : ℕ) → get_or (replicate n (pos 0)) i (pos 0) ≡ pos 0
noughts n i = go (dec_lt i n)
  where
    go : Dec (i < n) → get_or (replicate n (pos 0)) i (pos 0) ≡ pos 0
    go (yes h) = get_or-replicate n i (pos 0) (pos 0) h
    go (no h) = get_or-eq_default (replicate n (pos 0)) (pos 0) {n = i} (rw (length-replicate n (pos 0)) (omega (arith, h)))

take_noughts : (m n : ℕ) → m ≤ n → take m (replicate n (pos 0)) ≡ replicate m (pos 0)
take_noughts zero n h = refl
take_noughts (suc m) zero h = absurd (omega arith)
take_noughts (suc m) (suc n) h = ap (λ l. pos 0 ∷ l) (take_noughts m n (omega arith))

put_before : (m rest : List ℤ) (p : ℕ) (v : Interval) → 2 * p + 1 < length m → put (m ++ rest) p v ≡ put m p v ++ rest
unfolding put
put_before m rest p v h =
    ap (λ l. set l (2 * p + 1) v.hi) (set-append_left m rest (2 * p) v.lo (omega arith))
    ∙ set-append_left (set m (2 * p) v.lo) rest (2 * p + 1) v.hi (simp length-set (omega arith))

-- ---- its intervals are intervals
module _ (n : ℕ) (ts : List Transfer) where
  -- the records k, k + 1, .., d of them, can be put
  record Fit (d k : ℕ) : Type 0 where
    components : (j : ℕ) → j < d → both_components n (nth ts (k + j)) ≡ true
    shares : (j : ℕ) → j < d → acceptable (share (nth ts (k + j))) ≡ true

  fit_next : {d k : ℕ} → Fit (suc d) k → Fit d (k + 1)
  fit_next {k = k} f =
      record {
        components = λ j h. let g : k + suc j ≡ k + 1 + j = omega arith in rw g at (f.components (suc j) (omega arith));
        shares = λ j h. let g : k + suc j ≡ k + 1 + j = omega arith in rw g at (f.shares (suc j) (omega arith));
      }

  first_below : {d k : ℕ} → Fit (suc d) k → place_of n (nth ts k) < n * n
  first_below {k = k} f = let e : k + 0 ≡ k = omega arith in place_below n (nth ts k) (rw e at (f.components 0 (omega arith)))

  filled_sound : (d k : ℕ) (m : List ℤ) → Fit d k → length m ≡ 2 * (n * n) → Sound m → Sound (filled n ts d k m)
  unfolding filled
  filled_sound zero k m f l s = s
  filled_sound (suc d) k m f l s =
      let t = nth ts k in
      let e : k + 0 ≡ k = omega arith in
      let p = first_below f in
      filled_sound d (k + 1) (put m (place_of n t) (share t)) (fit_next f) (length_put m (place_of n t) (share t) ∙ l)
      (sound_put m (place_of n t) (share t) s (omega (arith, l, p)) (rw e at (f.shares 0 (omega arith))))

  -- what stands behind the square stays
  filled_before : (d k : ℕ) (m rest : List ℤ) → Fit d k → length m ≡ 2 * (n * n) → filled n ts d k (m ++ rest) ≡ filled n ts d k m ++ rest
  unfolding filled
  filled_before zero k m rest f l = refl
  filled_before (suc d) k m rest f l =
      let t = nth ts k in
      let p = first_below f in
      ap (filled n ts d (k + 1)) (put_before m rest (place_of n t) (share t) (omega (arith, l, p)))
      ∙ filled_before d (k + 1) (put m (place_of n t) (share t)) rest (fit_next f) (length_put m (place_of n t) (share t) ∙ l)

  all_fit : Passed n ts → Fit (length ts) 0
  all_fit p = record { components = tried_each _ _ (length ts) 0 p.components; shares = tried_each _ _ (length ts) 0 p.intervals }

  pub square_sound : Passed n ts → Sound (square n ts)
  unfolding square
  square_sound p = filled_sound (length ts) 0 _ (all_fit p) (length-replicate (2 * (n * n)) (pos 0)) (sound_noughts _ (noughts (2 * (n * n))))

  -- the list put into more noughts than the square has
  pub square_before : Passed n ts → (m : ℕ) → 2 * (n * n) ≤ m
      → filled n ts (length ts) 0 (replicate m (pos 0)) ≡ square n ts ++ drop (2 * (n * n)) (replicate m (pos 0))
  unfolding square
  square_before p m h =
      let z = replicate m (pos 0) in
      let k = 2 * (n * n) in
      ap (filled n ts (length ts) 0) (sym (take-append-drop k z) ∙ ap (λ l. l ++ drop k z) (take_noughts k m h))
      ∙ filled_before (length ts) 0 (replicate k (pos 0)) (drop k z) (all_fit p) (length-replicate k (pos 0))

sound_proper : (t : List ℤ) (d from : ℕ) → Sound t → proper t d 0 from ≡ Ok tt
sound_proper t d from s = proper_all t d 0 from (λ k h. s.each (0 + k))

-- ---- the tests of the square
module _ (s : Listing) (l : ℕ) (f : Fitting s l) where
  pub square_sizes : sizes s.size (slices (squared s) l) ≡ Ok tt
  unfolding sizes lengths both need
  square_sizes =
      rw (← sized_yes s.size f.some f.few, eq-eqb _ _ (length_square s.size s.transfers), eq-eqb _ _ f.right, eq-eqb _ _ f.box)

  module _ (p : Passed s.size s.transfers) (from : ℕ) (r : proper s.right s.size 0 from ≡ Ok tt) where
    square_parts : (ps : List Part) → ((q : ℕ) → all_proper q ps ≡ Ok tt) → all_proper 0 (parts (squared s) ps) ≡ Ok tt
    unfolding all_proper both
    square_parts ps h =
        rw (sound_proper (square s.size s.transfers) (s.size * s.size) 0 (square_sound s.size s.transfers p), sound_proper s.right s.size (0 + s.size * s.size) (proper_sound s.right s.size from f.right r))
        (h _)

    pub square_tests : tests (squared s) l ≡ Ok tt
    unfolding tests both all_proper
    square_tests = rw (square_sizes, square_parts [] (λ q. refl))

pub square_sweep_tests : (s : Listing) (k : ℕ) (X : List ℤ) → Fitting s (length X) → Passed s.size s.transfers → (from : ℕ) → proper s.right s.size 0 from ≡ Ok tt
    → sweep.allowance k ≡ Ok tt → (at : ℕ) → proper X s.size 0 at ≡ Ok tt → sweep.tests (squared s) k X ≡ Ok tt
unfolding sweep.tests both all_proper
square_sweep_tests s k X f p from r a at x =
    rw (square_sizes s (length X) f, a) (square_parts s (length X) f p from r (record { numbers = X; count = s.size } ∷ []) box)
  where
    box : (q : ℕ) → all_proper q (record { numbers = X; count = s.size } ∷ []) ≡ Ok tt
    box q = rw (sound_proper X s.size q (proper_sound X s.size at f.box x))
