-- One step of the test of all records in one go; it passes exactly if their tests do, one after the other.
use mathlib.Core.Path.{◌≡◌, refl, sym}
use mathlib.Core.Bool.{true, false}
use mathlib.Core.List.{List}
use Prim.Native.Nat.{ℕ, zero, suc, ◌+◌, ◌-◌, ◌≤◌, ◌<◌}
use native.Mathlib.Omega.{arith}
use native.Mathlib.Nat.{zero-add}
use borrow.Author.Tests.{le-leb, lt-leb, leb-true}
use lib.Dec.{leb}
use lib.ListN.{length}
use Rattle.interval.specs.Interval.{acceptable}
use Rattle.interval.proofs.Range.{and_both}
use Rattle.std.specs.Prelude.{Ok, Err, IsErr}
use Rattle.inputs.specs.Tests.{Test, both}
use Rattle.transfers.specs.declared.Transfer.{Transfer}
use Rattle.transfers.specs.Listing.{nth, share, both_components, follows, entries, place_of}
use Rattle.transfers.specs.Code.{all_good, judgement}
use Rattle.transfers.proofs.Tried.{tried_each, tried_all}
use Rattle.transfers.proofs.Order.{place_rises, rises_follows}
use Rattle.transfers.proofs.Judged.{passed}

-- a fact of the record k, and of those after it
from_first : (F : ℕ → Type 0) (d k : ℕ) → F k → ((j : ℕ) → j < d → F (k + 1 + j)) → (j : ℕ) → j < suc d → F (k + j)
from_first F d k a h zero l = let e : k + 0 ≡ k = omega arith in rw e a
from_first F d k a h (suc j) l = let e : k + suc j ≡ k + 1 + j = omega arith in rw e (h j (omega arith))

module _ (n : ℕ) (ts : List Transfer) (count k next : ℕ) where
  pub good_end : count ≤ k → all_good n ts (count - k) k next ≡ true
  unfolding all_good
  good_end h = let e : count - k ≡ 0 = omega arith in rw e

  module _ (h : k < count) where
    left : count - k ≡ suc (count - (k + 1))
    left = omega arith

    pub good_unknown : both_components n (nth ts k) ≡ false → all_good n ts (count - k) k next ≡ false
    unfolding all_good
    good_unknown v = rw (left, v)

    module _ (v : both_components n (nth ts k) ≡ true) where
      pub good_before : place_of n (nth ts k) < next → all_good n ts (count - k) k next ≡ false
      unfolding all_good
      good_before l = rw (left, v, lt-leb next (place_of n (nth ts k)) l)

      module _ (l : next ≤ place_of n (nth ts k)) where
        pub good_improper : acceptable (share (nth ts k)) ≡ false → all_good n ts (count - k) k next ≡ false
        unfolding all_good
        good_improper a = rw (left, v, le-leb next (place_of n (nth ts k)) l, a)

        pub good_go : acceptable (share (nth ts k)) ≡ true → all_good n ts (count - k) k next ≡ all_good n ts (count - (k + 1)) (k + 1) (place_of n (nth ts k) + 1)
        unfolding all_good
        good_go a = rw (left, v, le-leb next (place_of n (nth ts k)) l, a)

    -- what it says of the record k
    pub record First : Type 0 where
      pub components : both_components n (nth ts k) ≡ true
      pub place : next ≤ place_of n (nth ts k)
      pub proper : acceptable (share (nth ts k)) ≡ true
      pub rest : all_good n ts (count - (k + 1)) (k + 1) (place_of n (nth ts k) + 1) ≡ true

    pub good_first : all_good n ts (count - k) k next ≡ true → First
    unfolding all_good
    good_first e =
        let v = and_both (both_components n (nth ts k)) _ (rw left at e) in
        let l = and_both (leb next (place_of n (nth ts k))) _ v.1 in
        let a = and_both (acceptable (share (nth ts k))) _ l.1 in
        record { components = v.0; place = leb-true next (place_of n (nth ts k)) l.0; proper = a.0; rest = a.1 }

-- ---- what it says of the records k, k + 1, .., d of them
module _ (n : ℕ) (ts : List Transfer) where
  abbrev P : ℕ → ℕ
  P k = place_of n (nth ts k)

  pub record Good (d k next : ℕ) : Type 0 where
    components : (j : ℕ) → j < d → both_components n (nth ts (k + j)) ≡ true
    proper : (j : ℕ) → j < d → acceptable (share (nth ts (k + j))) ≡ true
    pub first : 0 < d → next ≤ P k
    rises : (j : ℕ) → j + 1 < d → P (k + j) < P (k + j + 1)

  pub each : (d k next : ℕ) → all_good n ts d k next ≡ true → Good d k next
  unfolding all_good
  each zero k next e = record { components = λ j h. absurd (omega arith); proper = λ j h. absurd (omega arith); first = λ h. absurd (omega arith); rises = λ j h. absurd (omega arith) }
  each (suc d) k next e =
      let v = and_both (both_components n (nth ts k)) _ e in
      let l = and_both (leb next (P k)) _ v.1 in
      let a = and_both (acceptable (share (nth ts k))) _ l.1 in
      let g = each d (k + 1) (P k + 1) a.1 in
      record {
        components = from_first (λ q. both_components n (nth ts q) ≡ true) d k v.0 g.components;
        proper = from_first (λ q. acceptable (share (nth ts q)) ≡ true) d k a.0 g.proper;
        first = λ h. leb-true next (P k) l.0;
        rises = λ j h. go g j h;
      }
    where
      go : Good d (k + 1) (P k + 1) → (j : ℕ) → j + 1 < suc d → P (k + j) < P (k + j + 1)
      go g zero h = let e : k + 0 ≡ k = omega arith in let l = g.first (omega arith) in rw e (omega (arith, l))
      go g (suc j) h = let e : k + suc j ≡ k + 1 + j = omega arith in rw e (g.rises j (omega arith))

  all_good_lem : (d k next : ℕ) → Good d k next → all_good n ts d k next ≡ true
  unfolding all_good
  all_good_lem zero k next g = refl
  all_good_lem (suc d) k next g =
      let e : k + 0 ≡ k = omega arith in
      let v : both_components n (nth ts k) ≡ true = rw e at (g.components 0 (omega arith)) in
      let a : acceptable (share (nth ts k)) ≡ true = rw e at (g.proper 0 (omega arith)) in
      rw (v, le-leb next (P k) (g.first (omega arith)), a)
      (all_good_lem d (k + 1) (P k + 1)
      record {
        components = λ j h. let f : k + suc j ≡ k + 1 + j = omega arith in rw f at (g.components (suc j) (omega arith));
        proper = λ j h. let f : k + suc j ≡ k + 1 + j = omega arith in rw f at (g.proper (suc j) (omega arith));
        first = λ h. let r : P k < P (k + 1) = rw e at (g.rises 0 (omega arith)) in omega (arith, r);
        rises = λ j h. let f : k + suc j ≡ k + 1 + j = omega arith in rw f at (g.rises (suc j) (omega arith));
      })

  -- ---- in one go, and one test after the other
  pub good_passes : all_good n ts (length ts) 0 0 ≡ true → judgement n ts ≡ Ok tt
  unfolding judgement entries both
  good_passes e =
      let g = each (length ts) 0 0 e in
      rw (tried_all _ _ (length ts) 0 g.components, tried_all _ _ (length ts - 1) 1 (order g), tried_all _ _ (length ts) 0 g.proper)
    where
      order : Good (length ts) 0 0 → (j : ℕ) → j < length ts - 1 → follows (nth ts (1 + j - 1)) (nth ts (1 + j)) ≡ true
      order g j h =
          let e : 1 + j - 1 ≡ j = omega arith in
          let f : 1 + j ≡ j + 1 = omega arith in
          rw (e, f) (rises_follows n (nth ts j) (nth ts (j + 1)) (rw (zero-add j) at (g.components j (omega arith))) (rw (zero-add (j + 1)) at (g.components (j + 1) (omega arith))) (rw (zero-add j) at (g.rises j (omega arith))))

  pub passes_good : judgement n ts ≡ Ok tt → all_good n ts (length ts) 0 0 ≡ true
  passes_good e =
      let p = passed n ts e in
      let v = tried_each _ _ (length ts) 0 p.components in
      all_good_lem (length ts) 0 0
      record {
        components = v;
        proper = tried_each _ _ (length ts) 0 p.intervals;
        first = λ h. omega arith;
        rises = λ j h.
            let f : 1 + j ≡ j + 1 = omega arith in
            let g : j + 1 - 1 ≡ j = omega arith in
            rw (zero-add j) (place_rises n (nth ts j) (nth ts (j + 1)) (rw (zero-add j) at (v j (omega arith))) (rw (zero-add (j + 1)) at (v (j + 1) (omega arith))) (rw (f, g) at (tried_each _ _ (length ts - 1) 1 p.order j (omega arith))));
      }

  -- if one of them is not good, a test refuses it
  pub one_refuses : {r : Test} → r ≡ judgement n ts → (all_good n ts (length ts) 0 0 ≡ true → ⊥) → IsErr r
  one_refuses {r = Ok _} e d = absurd (d (passes_good (sym e)))
  one_refuses {r = Err o} e d = refl
