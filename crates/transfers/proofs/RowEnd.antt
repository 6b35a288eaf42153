-- One record more in a row.
use mathlib.Core.Path.{◌≡◌, refl, sym, ap, ◌∙◌}
use mathlib.Core.Bool.{true}
use mathlib.Core.List.{List}
use Prim.Native.Nat.{ℕ, zero, suc, ◌+◌, ◌-◌, ◌*◌, ◌≤◌, ◌<◌}
use native.Mathlib.Omega.{arith}
use native.Mathlib.Decide.{dec_lt}
use native.Mathlib.Nat.{add-mul, one-mul}
use borrow.Author.Tests.{le-leb, leb-true}
use lib.Dec.{leb}
use lib.IntN.{pos, nat_abs}
use lib.ListN.{length, set, length-set}
use lib.Seq.{get_or-set_same, get_or-set_other}
use lib.Signed.{◌≤ℤ◌, le_z, le_z_yes, ≤ℤ_refl}
use Rattle.integer.proofs.Order.{trans}
use Rattle.integer.proofs.Extremes.{min_le_left, min_le_right, le_max_left, le_max_right, le_min, max_le}
use Rattle.interval.specs.declared.Interval.{Interval}
use Rattle.interval.specs.Interval.{zero as nought, lowest, highest, in_range, acceptable}
use Rattle.interval.proofs.Range.{Sound, and_both, is_sound, sound_accepted}
use Rattle.inputs.specs.Place.{cell}
use Rattle.inputs.proofs.Tests.{rows_apart}
use Rattle.transfers.specs.declared.Transfer.{Transfer}
use Rattle.transfers.specs.Listing.{nth, share, is_component, both_components, place_of}
use Rattle.transfers.specs.Code.{all_good}
use Rattle.transfers.specs.Rows.{Holds, hull, InRange, Later, InRow, RowOf, Rows, end}
use Rattle.transfers.proofs.Component.{Component, component, component_row, receiver, giver, later_component}
use Rattle.transfers.proofs.Good.{good_end, good_go, First, good_first}
use Rattle.transfers.proofs.Square.{place_below}

-- ---- hulls
pub holds_self : (h : Interval) → Holds h h
holds_self h = record { low = ≤ℤ_refl h.lo; high = ≤ℤ_refl h.hi }

pub holds_trans : {g h v : Interval} → Holds g h → Holds h v → Holds g v
holds_trans a b = record { low = trans a.low b.low; high = trans b.high a.high }

module _ (h v : Interval) where
  pub hull_left : Holds (hull h v) h
  unfolding hull
  hull_left = record { low = min_le_left h.lo v.lo; high = le_max_left h.hi v.hi }

  pub hull_right : Holds (hull h v) v
  unfolding hull
  hull_right = record { low = min_le_right h.lo v.lo; high = le_max_right h.hi v.hi }

pub range_held : {h v : Interval} → Holds h v → InRange h → InRange v
range_held w r = record { low = trans r.low w.low; high = trans w.high r.high }

-- a share in sequence with its hull in the range
pub share_acceptable : {v : Interval} → v.lo ≤ℤ v.hi → InRange v → acceptable v ≡ true
share_acceptable {v} o r =
    sound_accepted v (record { order = o; lo_in = record { low = r.low; high = trans o r.high }; hi_in = record { low = trans r.low o; high = r.high } })

-- ---- a record of a row stands in that row, in the column of its giver
module _ {n i : ℕ} {h : Interval} {t : Transfer} (w : InRow n i h t) where
  pub column_below : nat_abs t.giver - 1 < n
  column_below = let g = component n t.giver (giver n t w.components) in rw (component_row g) g.below

  pub row_place : place_of n t ≡ i * n + (nat_abs t.giver - 1)
  unfolding place_of
  row_place = let e : i + 1 - 1 ≡ i = omega arith in ap (λ k. cell n k (nat_abs t.giver - 1)) (ap (λ z. nat_abs z - 1) w.row ∙ e)

  pub row_acceptable : InRange h → acceptable (share t) ≡ true
  row_acceptable r = share_acceptable w.order (range_held w.held r)

  pub row_held : {g : Interval} → Holds g h → InRow n i g t
  row_held a = record { components = w.components; row = w.row; order = w.order; held = holds_trans a w.held }

pub in_row : {n i : ℕ} {h : Interval} (t : Transfer) → t.receiver ≡ pos (i + 1) → i < n → is_component n t.giver ≡ true → t.lo ≤ℤ t.hi → Holds h (share t) → InRow n i h t
unfolding both_components is_component
in_row {n} {i} t e h g o m =
    record { components = rw (e, le-leb 1 (i + 1) (omega arith), le-leb (i + 1) n (omega arith)) g; row = e; order = o; held = m }

-- ---- records that are good from a place on are so from a place before it
pub good_sooner : (n : ℕ) (ts : List Transfer) (d k : ℕ) {a b : ℕ} → a ≤ b → all_good n ts d k b ≡ true → all_good n ts d k a ≡ true
unfolding all_good
good_sooner n ts zero k h e = refl
good_sooner n ts (suc d) k {a} {b} h e =
    let v = and_both (both_components n (nth ts k)) _ e in
    let l = and_both (leb b (place_of n (nth ts k))) _ v.1 in
    let m = leb-true b (place_of n (nth ts k)) l.0 in
    rw (v.0, le-leb a (place_of n (nth ts k)) (omega (arith, m)), l.1)

-- ---- row i from one record on, so far
module _ (n : ℕ) (ts : List Transfer) (i from : ℕ) where
  -- up to the record k, the row has passed so many columns; if they are in the square, it has these records, with their shares in h
  pub record SoFar (k passed : ℕ) (h : Interval) : Type 0 where
    pub forward : from ≤ k
    pub few : k ≤ from + passed
    pub each : passed ≤ n → (j : ℕ) → from ≤ j → j < k → InRow n i h (nth ts j)
    pub good : passed ≤ n → InRange h → all_good n ts (length ts - k) k (i * n + passed) ≡ true → all_good n ts (length ts - from) from (i * n) ≡ true

  module _ {k passed : ℕ} {h : Interval} (s : SoFar k passed h) where
    module _ (a : i < n) (b : k < length ts) (e : (nth ts k).receiver ≡ pos (i + 1)) (l : Later passed (nth ts k).giver) (o : (nth ts k).lo ≤ℤ (nth ts k).hi) where
      abbrev t : Transfer
      t = nth ts k

      abbrev g : Interval
      g = hull h (share t)

      abbrev number : ℕ
      number = nat_abs t.giver

      -- the record itself, if its column is in the square
      own : number ≤ n → InRow n i g t
      own c = in_row t e a (later_component n l c) o (hull_right h (share t))

      pub one_more : SoFar (k + 1) number g
      one_more =
          record {
            forward = omega (arith, s.forward);
            few = omega (arith, s.few, l.past);
            each = λ c j f m. go c j f m (dec_lt j k);
            good = λ c r m.
                let w = own c in
                let p = row_place w in
                let z : i * n + number ≡ place_of n t + 1 = omega (arith, p, l.past) in
                s.good (omega (arith, c, l.past)) (range_held (hull_left h (share t)) r)
                (good_go n ts (length ts) k (i * n + passed) b w.components (omega (arith, p, l.past)) (row_acceptable w r) ∙ rw z at m);
          }
        where
          go : number ≤ n → (j : ℕ) → from ≤ j → j < k + 1 → Dec (j < k) → InRow n i g (nth ts j)
          go c j f m (yes d) = row_held (s.each (omega (arith, c, l.past)) j f d) (hull_left h (share t))
          go c j f m (no d) = let z : k ≡ j = omega (arith, m, d) in rw (sym z) (own c)

    pub row_ends : passed ≤ n → k ≤ length ts → RowOf n ts i h from k
    row_ends c m =
        record {
          forward = s.forward;
          within = m;
          few = omega (arith, s.few, c);
          each = s.each c;
          good = λ r e. let q = rows_apart n i (i + 1) (omega arith) in s.good c r (good_sooner n ts (length ts - k) k (omega (arith, q, c)) e);
        }

-- ---- good records stand in rows
module _ (n : ℕ) (ts : List Transfer) (few : n ≤ 32) where
  module _ (i k passed : ℕ) (a : i < n) (b : k < length ts) (f : First n ts (length ts) k (i * n + passed) b) where
    abbrev its : Transfer
    its = nth ts k

    abbrev receiving : Component n its.receiver
    receiving = component n its.receiver (receiver n its f.components)

    abbrev giving : Component n its.giver
    giving = component n its.giver (giver n its f.components)

    place_is : place_of n its ≡ receiving.row * n + giving.row
    unfolding place_of
    place_is = rw (component_row receiving, component_row giving)

    abs_is : nat_abs its.giver ≡ giving.row + 1
    abs_is = ap nat_abs giving.is

    -- a record with the row's number goes on with it
    module _ (e : its.receiver ≡ pos (i + 1)) where
      own_row : receiving.row ≡ i
      own_row = let z : i + 1 - 1 ≡ i = omega arith in sym (component_row receiving) ∙ ap (λ v. nat_abs v - 1) e ∙ z

      next_place : place_of n its + 1 ≡ i * n + nat_abs its.giver
      next_place = rw (abs_is, place_is, own_row) (omega arith)

      pub good_later : Later passed its.giver
      good_later =
          let p : i * n + passed ≤ i * n + giving.row = rw (place_is, own_row) at f.place in
          record { is = giving.is ∙ ap pos (sym abs_is); past = omega (arith, p, abs_is); few = omega (arith, abs_is, giving.below) }

      pub good_column : nat_abs its.giver ≤ n
      good_column = omega (arith, abs_is, giving.below)

      pub good_rest : all_good n ts (length ts - (k + 1)) (k + 1) (i * n + nat_abs its.giver) ≡ true
      good_rest = rw next_place at f.rest

    pub good_order : its.lo ≤ℤ its.hi
    good_order = (is_sound _ f.proper).order

    pub good_range : {h : Interval} → InRange h → InRange (hull h (share its))
    unfolding hull
    good_range {h} w = let v = is_sound _ f.proper in record { low = le_min h.lo its.lo _ w.low v.lo_in.low; high = max_le h.hi its.hi _ w.high v.hi_in.high }

    -- one with another number stands in a later row
    pub good_past : (its.receiver ≡ pos (i + 1) → ⊥) → all_good n ts (length ts - k) k ((i + 1) * n) ≡ true
    good_past d = good_go n ts (length ts) k ((i + 1) * n) b f.components (further (dec_lt i receiving.row) (dec_lt receiving.row i)) f.proper ∙ f.rest
      where
        further : Dec (i < receiving.row) → Dec (receiving.row < i) → (i + 1) * n ≤ place_of n its
        further (yes l) _ =
            let q = rows_apart n i receiving.row l in
            let z : (i + 1) * n ≡ i * n + n = rw (add-mul i 1 n, one-mul n) in
            rw (z, place_is) (omega (arith, q))
        further (no l) (yes m) =
            let q = rows_apart n receiving.row i m in
            let p : i * n + passed ≤ receiving.row * n + giving.row = rw place_is at f.place in
            absurd (omega (arith, q, p, giving.below))
        further (no l) (no m) = let z : receiving.row ≡ i = omega (arith, l, m) in absurd (d (receiving.is ∙ ap (λ j. pos (j + 1)) z))

  -- ---- row i so far, from one record on and after shares with the hull held: if the records from there on are good, then so are columns and shares, and the records that are left
  module _ (i from : ℕ) (held : Interval) where
    pub record Kept (k passed : ℕ) (h : Interval) : Type 0 where
      pub is : InRange held → all_good n ts (length ts - from) from (i * n) ≡ true → (passed ≤ n) × InRange h × (all_good n ts (length ts - k) k (i * n + passed) ≡ true)

    module _ {k passed : ℕ} {h : Interval} (w : Kept k passed h) where
      -- at the end of the list, or before a record of another row
      pub kept_last : length ts ≤ k → InRange held → all_good n ts (length ts - from) from (i * n) ≡ true
          → (passed ≤ n) × InRange h × (all_good n ts (length ts - k) k ((i + 1) * n) ≡ true)
      kept_last l r e = let v = w.is r e in (v.0, v.1, good_end n ts (length ts) k ((i + 1) * n) l)

      module _ (a : i < n) (b : k < length ts) where
        first_of : InRange held → all_good n ts (length ts - from) from (i * n) ≡ true → First n ts (length ts) k (i * n + passed) b
        first_of r e = good_first n ts (length ts) k (i * n + passed) b (w.is r e).2

        pub kept_past : ((nth ts k).receiver ≡ pos (i + 1) → ⊥) → InRange held → all_good n ts (length ts - from) from (i * n) ≡ true
            → (passed ≤ n) × InRange h × (all_good n ts (length ts - k) k ((i + 1) * n) ≡ true)
        kept_past d r e = let v = w.is r e in (v.0, v.1, good_past i k passed a b (first_of r e) d)

        -- a record of the row goes on with it
        module _ (q : (nth ts k).receiver ≡ pos (i + 1)) where
          pub kept_goes : InRange held → all_good n ts (length ts - from) from (i * n) ≡ true → Later passed (nth ts k).giver × ((nth ts k).lo ≤ℤ (nth ts k).hi)
          kept_goes r e = (good_later i k passed a b (first_of r e) q, good_order i k passed a b (first_of r e))

          pub kept_more : Kept (k + 1) (nat_abs (nth ts k).giver) (hull h (share (nth ts k)))
          kept_more =
              record {
                is = λ r e.
                    let f = first_of r e in
                    (good_column i k passed a b f q, good_range i k passed a b f (w.is r e).1, good_rest i k passed a b f q);
              }

  -- no record stands past the last row
  pub none_past : (k : ℕ) → all_good n ts (length ts - k) k (n * n) ≡ true → length ts ≤ k
  none_past k e = go (dec_lt k (length ts))
    where
      go : Dec (k < length ts) → length ts ≤ k
      go (no h) = omega (arith, h)
      go (yes h) = let f = good_first n ts (length ts) k (n * n) h e in let b = place_below n (nth ts k) f.components in absurd (omega (arith, b, f.place))

-- the hull of shares in the range is in the range, as a test of both its ends has it
pub range_tested : (h : Interval) → InRange h → Holds h nought → in_range h ≡ true
unfolding acceptable lowest highest
range_tested h w z =
    let v : Sound h = record { order = trans z.low z.high; lo_in = record { low = w.low; high = trans z.low (le_z_yes tt) }; hi_in = record { low = trans (le_z_yes tt) z.high; high = w.high } } in
    (and_both (le_z h.lo h.hi) (in_range h) (sound_accepted h v)).1

pub row_wider : {n : ℕ} {ts : List Transfer} {i k e : ℕ} {g h : Interval} → Holds g h → RowOf n ts i h k e → RowOf n ts i g k e
row_wider a w =
    record {
      forward = w.forward;
      within = w.within;
      few = w.few;
      each = λ j f m. row_held (w.each j f m) a;
      good = λ r. w.good (range_held a r);
    }

-- ---- the rows before row i are found, and from is where the last of them ends
pub record Found (n : ℕ) (ts : List Transfer) (ends : List ℕ) (h : Interval) (from i : ℕ) : Type 0 where
  pub room : length ends ≡ 33
  pub first : end ends 0 ≡ 0
  pub last : end ends i ≡ from
  pub row : (j : ℕ) → j < i → RowOf n ts j h (end ends j) (end ends (j + 1))

module _ (n : ℕ) (ts : List Transfer) where
  pub none_found : {ends : List ℕ} {h : Interval} → length ends ≡ 33 → end ends 0 ≡ 0 → Found n ts ends h 0 0
  none_found l e = record { room = l; first = e; last = e; row = λ j h. absurd (omega arith) }

  module _ {ends : List ℕ} {h : Interval} {from i : ℕ} (f : Found n ts ends h from i) where
    pub one_found : {e : ℕ} {g : Interval} → i < 32 → Holds g h → RowOf n ts i g from e → Found n ts (set ends (i + 1) e) g e (i + 1)
    one_found {e} {g} l a w =
        record {
          room = length-set ends (i + 1) e ∙ f.room;
          first = other 0 (omega arith) ∙ f.first;
          last = own;
          row = λ j b. go j b (dec_lt j i);
        }
      where
        own : end (set ends (i + 1) e) (i + 1) ≡ e
        own = get_or-set_same ends (i + 1) e 0 (omega (arith, f.room))

        other : (j : ℕ) → j < i + 1 → end (set ends (i + 1) e) j ≡ end ends j
        other j b = get_or-set_other ends (i + 1) j e 0 (omega (arith, b))

        go : (j : ℕ) → j < i + 1 → Dec (j < i) → RowOf n ts j g (end (set ends (i + 1) e) j) (end (set ends (i + 1) e) (j + 1))
        go j b (yes c) = rw (other j b, other (j + 1) (omega arith)) (row_wider a (f.row j c))
        go j b (no c) = let z : i ≡ j = omega (arith, b, c) in rw (sym z, other i (omega arith), own, f.last) w

    pub all_found : i ≡ n → from ≡ length ts → Rows n ts ends h
    all_found e l = record { first = f.first; last = rw (sym e) (f.last ∙ l); row = λ j b. f.row j (omega (arith, e, b)) }
