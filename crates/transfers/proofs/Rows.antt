-- A list in rows passes all tests of its records, and a row's sum over its records is the sum over the row of the square.
use mathlib.Core.Path.{◌≡◌, sym, ap, ap₂, ◌∙◌}
use mathlib.Core.Bool.{true}
use mathlib.Core.Logic.{◌≢◌, ◌⊎◌, inl, inr}
use mathlib.Core.List.{List}
use Prim.Native.Nat.{ℕ, zero, suc, ◌+◌, ◌-◌, ◌*◌, ◌≤◌, ◌<◌}
use native.Mathlib.Omega.{arith}
use native.Mathlib.Nat.{zero-add, zero-mul, sub-zero}
use native.Mathlib.Decide.{dec_lt, ℕ_discrete}
use lib.IntN.{ℤ, pos, nat_abs, ◌*ℤ◌}
use lib.ListN.{length}
use Rattle.integer.specs.Extremes.{minimum, maximum}
use Rattle.integer.proofs.Linear.{linear, over}
use Rattle.interval.specs.declared.Interval.{Interval}
use Rattle.interval.specs.Interval.{zero as zeroInterval, scale, rounded, exact_sum, exact_product}
use Rattle.std.specs.Prelude.{Ok}
use Rattle.inputs.specs.Place.{at}
use Rattle.inputs.proofs.Tests.{both_pass, rows_apart}
use Rattle.rows.specs.Sum.{exactly, once}
use Rattle.rows.proofs.Exact.{sum_assoc, sum_nought}
use Rattle.transfers.specs.declared.Transfer.{Transfer}
use Rattle.transfers.specs.Listing.{nth, share, entries, place_of, square}
use Rattle.transfers.specs.Code.{all_good, judgement}
use Rattle.transfers.specs.Rows.{InRange, InRow, Rows, end, term, two_terms, summed, row_sum}
use Rattle.transfers.proofs.Good.{good_end, each, good_passes}
use Rattle.transfers.proofs.Places.{no_place, rises, own_place}
use Rattle.transfers.proofs.RowEnd.{row_place, column_below}

nought_product : (v : Interval) → exact_product zeroInterval v ≡ zeroInterval
unfolding exact_product minimum maximum
nought_product v = rw (none v.lo, none v.hi)
  where
    none : (k : ℤ) → pos 0 *ℤ k ≡ pos 0
    none = over 1 _ (λ ρ. simp (linear, ρ) (omega arith))

-- ---- one record more in a row's sum, before the record e
module _ (ts : List Transfer) (x : List ℤ) (e k : ℕ) (acc : Interval) where
  pub summed_end : e ≤ k → summed ts x (e - k) k acc ≡ acc
  unfolding summed
  summed_end h = let f : e - k ≡ 0 = omega arith in rw f

  pub summed_go : k < e → summed ts x (e - k) k acc ≡ summed ts x (e - (k + 1)) (k + 1) (exact_sum acc (term ts x k))
  unfolding summed
  summed_go h = let f : e - k ≡ suc (e - (k + 1)) = omega arith in rw f

-- two records more, whose products are added first
pub summed_two : (ts : List Transfer) (x : List ℤ) (e k : ℕ) (acc : Interval) {j : ℕ} {v : Interval} → v ≡ exact_sum acc (two_terms ts x j) → j ≡ k → k + 1 + 1 ≤ e
    → summed ts x (e - k) k acc ≡ summed ts x (e - (k + 2)) (k + 2) v
unfolding two_terms
summed_two ts x e k acc f g h =
    let z : k + 1 + 1 ≡ k + 2 = omega arith in
    summed_go ts x e k acc (omega arith) ∙ summed_go ts x e (k + 1) _ (omega arith) ∙ rw (z, f, g) (ap (summed ts x (e - (k + 2)) (k + 2)) (sum_assoc _ _ _))

-- ---- a row's sum, r, of which j pairs are added
module _ (ts : List Transfer) (x : List ℤ) (from past j : ℕ) {r : Interval} (acc : Interval) (e : r ≡ summed ts x (past - (from + 2 * j)) (from + 2 * j) acc) where
  -- a pair more, whose products are added first
  pub summed_pair : {v : Interval} → v ≡ exact_sum acc (two_terms ts x (from + 2 * j)) → from + 2 * j + 1 + 1 ≤ past → r ≡ summed ts x (past - (from + 2 * (j + 1))) (from + 2 * (j + 1)) v
  summed_pair f h =
      let z : from + 2 * (j + 1) ≡ from + 2 * j + 2 = omega arith in
      e ∙ rw z (summed_two ts x past (from + 2 * j) acc f (λ i. from + 2 * j) h)

  -- the last record
  pub summed_last : {v : Interval} (k : ℕ) → v ≡ exact_sum acc (term ts x k) → k ≡ from + 2 * j → k + 1 ≡ past → v ≡ r
  summed_last k f q l = f ∙ sym (rw (← q) at e ∙ summed_go ts x past k acc (omega arith) ∙ summed_end ts x past (k + 1) _ (omega arith))

  -- no record is left
  pub summed_all : past ≤ from + 2 * j → acc ≡ r
  summed_all h = sym (e ∙ summed_end ts x past (from + 2 * j) acc h)

module _ (n : ℕ) (ts : List Transfer) (ends : List ℕ) {shares : Interval} (range : InRange shares) (w : Rows n ts ends shares) where
  abbrev P : ℕ → ℕ
  P k = place_of n (nth ts k)

  -- ---- the tests
  pub rows_good : (i : ℕ) → i ≤ n → all_good n ts (length ts - end ends i) (end ends i) (i * n) ≡ true
  rows_good i h = go (n - i) i (omega arith)
    where
      go : (d i : ℕ) → i + d ≡ n → all_good n ts (length ts - end ends i) (end ends i) (i * n) ≡ true
      go zero i e =
          let f : i ≡ n = omega arith in
          let l = ap (end ends) f ∙ w.last in
          good_end n ts (length ts) (end ends i) (i * n) (omega (arith, l))
      go (suc d) i e = (w.row i (omega arith)).good range (go d (i + 1) (omega arith))

  pub rows_judged : judgement n ts ≡ Ok tt
  rows_judged = good_passes n ts (rw (w.first, sub-zero (length ts), zero-mul n) at (rows_good 0 (omega arith)))

  rows_entries : entries n ts ≡ Ok tt
  unfolding judgement
  rows_entries = (both_pass _ _ rows_judged).0

  -- ---- the records before a row, of it, and after it
  before : (i : ℕ) → i ≤ n → (j : ℕ) → j < end ends i → P j < i * n
  before zero h j l = let f = w.first in absurd (omega (arith, f, l))
  before (suc i) h j l = go (dec_lt j (end ends i)) (before i (omega arith) j)
    where
      q : suc i ≡ i + 1
      q = omega arith

      r : i * n + n ≤ suc i * n
      r = rows_apart n i (suc i) (omega arith)

      go : Dec (j < end ends i) → (j < end ends i → P j < i * n) → P j < suc i * n
      go (yes a) f = let b = f a in omega (arith, b, r)
      go (no a) f =
          let m = (w.row i (omega arith)).each j (omega (arith, a)) (rw q at l) in
          let e = row_place m in
          let c = column_below m in
          omega (arith, e, c, r)

  later : (i : ℕ) → i ≤ n → (j : ℕ) → end ends i ≤ j → j < length ts → i * n ≤ P j
  later i h j l b = go (dec_lt (end ends i) j)
    where
      k : ℕ
      k = end ends i

      f : i * n ≤ P k
      f = (each n ts (length ts - k) k (i * n) (rows_good i h)).first (omega arith)

      go : Dec (k < j) → i * n ≤ P j
      go (yes a) = let r = rises n ts rows_entries k j a b in omega (arith, f, r)
      go (no a) = let e : k ≡ j = omega (arith, a, l) in rw e at f

  -- ---- one row
  module _ (x : List ℤ) (i : ℕ) (h : i < n) where
    abbrev first : ℕ
    first = end ends i

    abbrev past : ℕ
    past = end ends (i + 1)

    -- the records before k stand before column c, and the others not before it
    record Split (c k : ℕ) : Type 0 where
      from : first ≤ k
      left : (j : ℕ) → j < k → P j < i * n + c
      right : (j : ℕ) → k ≤ j → j < length ts → i * n + c ≤ P j

    of_row : (k : ℕ) → first ≤ k → k < past → InRow n i shares (nth ts k)
    of_row k a b = (w.row i h).each k a b

    within : past ≤ length ts
    within = (w.row i h).within

    -- the record k has column c
    record Listed (c k : ℕ) : Type 0 where
      some : k < past
      own : at (square n ts) (i * n + c) ≡ share (nth ts k)
      column : c ≡ nat_abs (nth ts k).giver - 1
      next : Split (c + 1) (k + 1)

    -- no record has column c
    record Unlisted (c k : ℕ) : Type 0 where
      none : at (square n ts) (i * n + c) ≡ zeroInterval
      next : Split (c + 1) k

    listed : (c k : ℕ) → Split c k → k < past → P k ≡ i * n + c → Listed c k
    listed c k s b e =
        let p = row_place (of_row k s.from b) in
        let l = within in
        record {
          some = b;
          own = rw e at (own_place n ts rows_entries k (omega (arith, b, l)));
          column = omega (arith, e, p);
          next =
              record {
                from = let f = s.from in omega (arith, f);
                left = λ j a. go j a (dec_lt j k);
                right = λ j a m. let r = rises n ts rows_entries k j (omega (arith, a)) m in omega (arith, r, e);
              };
        }
      where
        go : (j : ℕ) → j < k + 1 → Dec (j < k) → P j < i * n + (c + 1)
        go j a (yes f) = let l = s.left j f in omega (arith, l)
        go j a (no f) = let q : k ≡ j = omega (arith, a, f) in let g : P j ≡ i * n + c = rw q at e in omega (arith, g)

    unlisted : (c k : ℕ) → Split c k → ((j : ℕ) → k ≤ j → j < length ts → i * n + (c + 1) ≤ P j) → Unlisted c k
    unlisted c k s r =
        record {
          none = no_place n ts (i * n + c) (λ j b e. go j b e (dec_lt j k));
          next =
              record {
                from = s.from;
                left = λ j a. let l = s.left j a in omega (arith, l);
                right = r;
              };
        }
      where
        go : (j : ℕ) → j < length ts → i * n + c ≡ P j → Dec (j < k) → ⊥
        go j b e (yes a) = let l = s.left j a in omega (arith, l, e)
        go j b e (no a) = let l = r j (omega (arith, a)) b in omega (arith, l, e)

    column : (c k : ℕ) → c < n → Split c k → Listed c k ⊎ Unlisted c k
    column c k b s = go (dec_lt k past) (ℕ_discrete (P k) (i * n + c))
      where
        go : Dec (k < past) → Dec (P k ≡ i * n + c) → Listed c k ⊎ Unlisted c k
        go (yes a) (yes e) = inl (listed c k s a e)
        go (yes a) (no e) = inr (unlisted c k s (λ j f m. further j f m (dec_lt k j)))
          where
            further : (j : ℕ) → k ≤ j → j < length ts → Dec (k < j) → i * n + (c + 1) ≤ P j
            further j f m (yes g) =
                let r = rises n ts rows_entries k j g m in
                let l = s.right k (omega arith) (omega (arith, g, m)) in
                omega (arith, r, l)
            further j f m (no g) =
                let q : k ≡ j = omega (arith, f, g) in
                let l = s.right j f m in
                let u : P j ≢ i * n + c = rw q at e in
                omega (arith, l, u)
        go (no a) _ =
            inr
            (unlisted c k s
            (λ j f m.
            let l = later (i + 1) (omega arith) j (omega (arith, a, f)) m in
            let r = rows_apart n i (i + 1) (omega arith) in
            omega (arith, l, r, b)))

    -- all columns are passed, and so all records
    none_left : (c k : ℕ) → c ≡ n → Split c k → past ≤ k
    none_left c k e s = go (dec_lt k past)
      where
        go : Dec (k < past) → past ≤ k
        go (yes a) =
            let m = of_row k s.from a in
            let p = row_place m in
            let b = column_below m in
            let l = within in
            let r = s.right k (omega arith) (omega (arith, a, l)) in
            absurd (omega (arith, p, b, r, e))
        go (no a) = omega (arith, a)

    abbrev Sums : (d c : ℕ) → Type 0
    Sums d c = (k : ℕ) (acc : Interval) → Split c k → exactly (square n ts) (i * n) x 0 d c acc ≡ summed ts x (past - k) k acc

    sums_go : (d c k : ℕ) (acc : Interval) → Sums d (c + 1) → Listed c k ⊎ Unlisted c k → exactly (square n ts) (i * n) x 0 (suc d) c acc ≡ summed ts x (past - k) k acc
    unfolding exactly term
    sums_go d c k acc f (inl l) =
        ap (λ v. exactly (square n ts) (i * n) x 0 d (c + 1) (exact_sum acc v)) (ap₂ exact_product l.own (ap (at x) (zero-add c ∙ l.column)))
        ∙ f (k + 1) _ l.next
        ∙ sym (summed_go ts x past k acc l.some)
    sums_go d c k acc f (inr u) = rw (u.none, nought_product (at x (0 + c)), sum_nought acc) (f k acc u.next)

    sums : (d c : ℕ) → c + d ≡ n → Sums d c
    unfolding exactly
    sums zero c e k acc s = sym (summed_end ts x past k acc (none_left c k (omega arith) s))
    sums (suc d) c e k acc s = sums_go d c k acc (sums d (c + 1) (omega arith)) (column c k (omega arith) s)

    -- the sum over the row of the square
    pub row_listed : exactly (square n ts) (i * n) x 0 n 0 zeroInterval ≡ row_sum ts ends x i
    unfolding row_sum
    row_listed =
        sums n 0 (zero-add n) first zeroInterval
        record {
          from = omega arith;
          left = λ j a. let b = before i (omega arith) j a in omega (arith, b);
          right = λ j a b. let l = later i (omega arith) j a b in omega (arith, l);
        }

    pub row_once : rounded scale (row_sum ts ends x i) ≡ once (square n ts) (i * n) x 0 n
    unfolding once
    row_once = ap (rounded scale) (sym row_listed)
