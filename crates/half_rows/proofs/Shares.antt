-- Shares that are tested on the way.
use mathlib.Core.Path.{◌≡◌, refl, sym, ap, ap₂, subst, ◌∙◌}
use mathlib.Core.Bool.{Bool, true, false}
use mathlib.Core.List.{List, []}
use Prim.Native.Nat.{ℕ, zero, suc, ◌+◌, ◌-◌, ◌*◌, ◌≤◌, ◌<◌}
use native.Mathlib.Omega.{arith}
use native.Mathlib.Decide.{dec_lt}
use lib.IntN.{ℤ}
use lib.ListN.{length, take, drop, length-drop}
use lib.Seq.{length-take-le}
use Rattle.std.specs.Prelude.{Option, Some, None, is_ok, Ok, Err}
use Rattle.std.specs.Result.{result_ok}
use Rattle.outcome.specs.declared.Refusal.{Refusal}
use Rattle.interval.specs.declared.Interval.{Interval}
use Rattle.interval.specs.Interval.{zero as zeroInterval, acceptable, exact_sum, exact_product}
use Rattle.inputs.specs.Place.{at}
use Rattle.inputs.specs.Tests.{Test, both, need, proper}
use Rattle.inputs.specs.Code.{Sound}
use Rattle.inputs.proofs.Place.{at_past, zero_accepted}
use Rattle.inputs.proofs.Tests.{never, proper_each, proper_all}
use Rattle.wide_sum.specs.declared.WideInterval.{WideInterval}
use Rattle.wide_sum.specs.Wide.{held_both}
use Rattle.wide_sum.specs.Code.{NearBoth, AddedBoth}
use Rattle.wide_sum.proofs.Near.{near_both_more}
use Rattle.rows.specs.Sum.{exactly}
use Rattle.rows.specs.Code.{Summed}
use Rattle.rows.specs.Word.{Modest, SumModest, NextAbove}
use Rattle.rows.proofs.Exact.{one_product, exactly_from, exactly_later}
use Rattle.rows.proofs.Word.{nought_modest}
use Rattle.half_rows.specs.Rows.{first, beside, begin, part}
use Rattle.half_rows.specs.Code.{AllShares, NoShare, SumTested, SideSummed}
use Rattle.half_rows.proofs.Row.{Spans, spans, at_part, exactly_part, side_is}

-- ---- a short list of intervals
pub all_sound : (g : List ℤ) (d : ℕ) → length g ≡ 2 * d → AllShares g 0 d → Sound g
all_sound g d l h = record { each = λ p. go p (dec_lt p d) }
  where
    go : (p : ℕ) → Dec (p < d) → acceptable (at g p) ≡ true
    go p (yes k) = let e : 0 + p ≡ p = omega arith in ap (λ (r : ℕ). acceptable (at g r)) (sym e) ∙ h p k
    go p (no k) = rw (at_past g p (omega arith)) zero_accepted

pub one_share : (g : List ℤ) → acceptable (at g 0) ≡ true → AllShares g 0 1
one_share g e zero h = e
one_share g e (suc j) h = absurd (omega arith)

pub sound_shares : (g : List ℤ) (d : ℕ) → Sound g → AllShares g 0 d
sound_shares g d s j h = s.each (0 + j)

-- ---- a part, as the code has it
pub part_is : (h : List ℤ) (a l : ℕ) → take (a + l - a) (drop a h) ≡ part h a l
part_is h a l = let e : a + l - a ≡ l = omega arith in rw e

pub part_long : (h : List ℤ) (a l : ℕ) → a + l ≤ length h → length (take (a + l - a) (drop a h)) ≡ l
part_long h a l k = let e : a + l - a ≡ l = omega arith in rw e (length-take-le l (drop a h) (rw (length-drop a h) (omega arith)))

-- ---- the first e shares are summed
pub record SoFar (h : List ℤ) (p : ℕ) (x : List ℤ) (q e : ℕ) (sum : Interval) : Type 0 where
  pub shares : AllShares h p e
  pub summed : sum ≡ exactly h p x q e 0 zeroInterval
  pub modest : SumModest e sum

module _ (h : List ℤ) (p : ℕ) (x : List ℤ) (q : ℕ) where
  pub none_yet : SoFar h p x q 0 zeroInterval
  unfolding exactly
  none_yet = record { shares = λ j k. absurd (omega arith); summed = refl; modest = nought_modest }

  pub next_sum : {e : ℕ} {sum a b r : Interval} → SoFar h p x q e sum → a ≡ at h (p + e) → Modest a → b ≡ at x (q + e) → NextAbove sum a b r → SoFar h p x q (e + 1) r
  next_sum {e} {sum} w f m g n =
      record {
        shares = more;
        summed =
            n.is ∙ ap₂ exact_sum w.summed (ap₂ exact_product f g)
            ∙ sym (exactly_later h p x q e 1 zeroInterval ∙ one_product h (p + e) x (q + e) _);
        modest = n.modest e w.modest;
      }
    where
      more : (j : ℕ) → j < e + 1 → acceptable (at h (p + j)) ≡ true
      more j k = go (dec_lt j e)
        where
          go : Dec (j < e) → acceptable (at h (p + j)) ≡ true
          go (yes l) = w.shares j l
          go (no l) = let z : e ≡ j = omega (arith, l, k) in rw (sym z) (ap acceptable (sym f) ∙ m.share)

  pub summed_none : (acc : WideInterval) → Summed acc h p x q 0 acc
  unfolding exactly
  summed_none acc = record { is = refl; near = λ l n. near_both_more (omega arith) n }

  pub summed_up : {d : ℕ} {sum : Interval} (acc r : WideInterval) → 1 ≤ d → SoFar h p x q d sum → AddedBoth acc sum r → Summed acc h p x q d r
  summed_up {d} {sum} acc r k w a =
      record {
        is = a.is ∙ ap (exact_sum (held_both acc)) w.summed ∙ sym (exactly_from h p x q d 0 (held_both acc));
        near = λ l n. near_both_more (omega (arith, k)) (a.near l n);
      }

-- ---- d shares in a part of their own, as the code has it
module _ (acc : WideInterval) (h : List ℤ) (p : ℕ) (x : List ℤ) (q d : ℕ) where
  there_all : (j : ℕ) → j < d → at (part h (2 * p) (2 * d)) (0 + j) ≡ at h (p + j)
  there_all j k = let z : 0 + j ≡ j = omega arith in rw z (at_part h p d j k)

  pub whole_tested : (r : Option WideInterval) → SumTested acc (take (2 * p + 2 * d - 2 * p) (drop (2 * p) h)) 0 x q d r → SumTested acc h p x q d r
  whole_tested r t = go r (subst (λ (g : List ℤ). SumTested acc g 0 x q d r) (part_is h (2 * p) (2 * d)) t)
    where
      go : (r : Option WideInterval) → SumTested acc (part h (2 * p) (2 * d)) 0 x q d r → SumTested acc h p x q d r
      go None n = record { place = n.place; below = n.below; none = ap acceptable (sym (there_all n.place n.below)) ∙ n.none }
      go (Some s) (all, b) =
          let y : p + 0 ≡ p = omega arith in (
            λ j k. ap acceptable (sym (there_all j k)) ∙ all j k,
            record {
              is = b.is ∙ exactly_part h p d 0 x q d 0 (held_both acc) (omega arith) ∙ ap (λ (a : ℕ). exactly h a x q d 0 (held_both acc)) y;
              near = b.near;
            },
          )

-- what is no interval is found
pub proper_none : (t : List ℤ) (d p from : ℕ) {o : Refusal} → proper t d p from ≡ Err o → NoShare t p d
unfolding proper both need
proper_none t zero p from {o} e = never o (sym e)
proper_none t (suc d) p from {o} e = go (acceptable (at t p)) refl (λ f. proper_none t d (p + 1) from f)
  where
    go : (b : Bool) → acceptable (at t p) ≡ b → (proper t d (p + 1) from ≡ Err o → NoShare t (p + 1) d) → NoShare t p (suc d)
    go false f k = let z : p + 0 ≡ p = omega arith in record { place = 0; below = omega arith; none = rw z f }
    go true f k =
        let n = k (rw f at e) in
        let z : p + 1 + n.place ≡ p + suc n.place = omega arith in
        record { place = suc n.place; below = omega (arith, n.below); none = rw (sym z) n.none }

-- the same from the answer of the test
module _ (t : List ℤ) (d : ℕ) {r : Test} (e : r ≡ proper t d 0 0) where
  pub not_proper : result_ok r ≡ None → NoShare t 0 d
  not_proper f = go r e f
    where
      go : (r : Test) → r ≡ proper t d 0 0 → result_ok r ≡ None → NoShare t 0 d
      go (Ok _) e f = cc
      go (Err o) e f = proper_none t d 0 0 (sym e)

  pub is_proper : {u : Unit {0}} → result_ok r ≡ Some u → proper t d 0 0 ≡ Ok tt
  is_proper f = go r e f
    where
      go : (r : Test) {u : Unit {0}} → r ≡ proper t d 0 0 → result_ok r ≡ Some u → proper t d 0 0 ≡ Ok tt
      go (Ok _) e f = sym e
      go (Err o) e f = cc

-- ---- one share, at a place of h
module _ (acc : WideInterval) (h : List ℤ) (a : ℕ) (x : List ℤ) (q : ℕ) (r : Option WideInterval)
    (t : SumTested acc (take (2 * a + 2 - 2 * a) (drop (2 * a) h)) 0 x q 1 r) where
  single : {u : Option WideInterval} → r ≡ u → SumTested acc (part h (2 * a) (2 * 1)) 0 x q 1 u
  single {u} f =
      subst (λ (g : List ℤ). SumTested acc g 0 x q 1 u) (part_is h (2 * a) (2 * 1))
      (subst (λ (u : Option WideInterval). SumTested acc (take (2 * a + 2 - 2 * a) (drop (2 * a) h)) 0 x q 1 u) f t)

  here : (j : ℕ) → j < 1 → at (part h (2 * a) (2 * 1)) (0 + j) ≡ at h a
  here j k =
      let z : 0 + j ≡ 0 = omega arith in
      let y : a + 0 ≡ a = omega arith in
      rw z (at_part h a 1 0 (omega arith) ∙ ap (at h) y)

  pub single_none : r ≡ None → acceptable (at h a) ≡ false
  single_none f = let n = single f in ap acceptable (sym (here n.place n.below)) ∙ n.none

  module _ {s : WideInterval} (f : r ≡ Some s) where
    pub single_share : acceptable (at h a) ≡ true
    single_share = ap acceptable (sym (here 0 (omega arith))) ∙ (single f).0 0 (omega arith)

    pub single_is : held_both s ≡ exactly h a x q 1 0 (held_both acc)
    single_is =
        let y : a + 0 ≡ a = omega arith in
        (single f).1.is ∙ exactly_part h a 1 0 x q 1 0 (held_both acc) (omega arith) ∙ ap (λ (p : ℕ). exactly h p x q 1 0 (held_both acc)) y

-- ---- the whole half row: the side behind, and the diagonal
fails : (h : List ℤ) (l p : ℕ) → p < l → acceptable (at h p) ≡ false → is_ok (proper h l 0 0) ≡ false
fails h l p k e = go (proper h l 0 0) refl
  where
    go : (t : Test) → proper h l 0 0 ≡ t → is_ok t ≡ false
    go (Ok _) f = let z : 0 + p ≡ p = omega arith in sym (ap (λ (r : ℕ). acceptable (at h r)) (sym z) ∙ proper_each h l 0 0 f p k) ∙ e
    go (Err o) f = refl

module _ (back : Bool) (n i : ℕ) (h : List ℤ) (below : i < n) where
  w : Spans n i (begin back i) (first back i) (beside back n i)
  w = spans back n i refl refl refl below

  pub side_fails : NoShare h (first back i - begin back i) (beside back n i) → is_ok (proper h (beside back n i + 1) 0 0) ≡ false
  side_fails s = fails h _ (first back i - begin back i + s.place) (omega (arith, w.beside_in, s.below)) s.none

  pub diagonal_fails : acceptable (at h (i - begin back i)) ≡ false → is_ok (proper h (beside back n i + 1) 0 0) ≡ false
  diagonal_fails e = fails h _ (i - begin back i) (omega (arith, w.diagonal_in)) e

  pub half_passes : AllShares h (first back i - begin back i) (beside back n i) → acceptable (at h (i - begin back i)) ≡ true → proper h (beside back n i + 1) 0 0 ≡ Ok tt
  unfolding first beside begin
  half_passes all e = proper_all h _ 0 0 (λ k l. place back k l all e)
    where
      -- the diagonal is the last share of the way there, and the first one of the way back
      place : (back : Bool) (k : ℕ) → k < beside back n i + 1 → AllShares h (first back i - begin back i) (beside back n i) → acceptable (at h (i - begin back i)) ≡ true
          → acceptable (at h (0 + k)) ≡ true
      place true zero l all e = let z : i - i ≡ 0 + 0 = omega arith in ap (λ (r : ℕ). acceptable (at h r)) (sym z) ∙ e
      place true (suc k) l all e = let z : i + 1 - i + k ≡ 0 + suc k = omega arith in ap (λ (r : ℕ). acceptable (at h r)) (sym z) ∙ all k (omega arith)
      place false k l all e = go (dec_lt k i)
        where
          go : Dec (k < i) → acceptable (at h (0 + k)) ≡ true
          go (yes b) = let z : 0 - 0 + k ≡ 0 + k = omega arith in ap (λ (r : ℕ). acceptable (at h r)) (sym z) ∙ all k b
          go (no b) = let z : i - 0 ≡ 0 + k = omega (arith, b, l) in ap (λ (r : ℕ). acceptable (at h r)) (sym z) ∙ e

-- ---- the side, as the code has it
module _ (back : Bool) (n i : ℕ) (h X : List ℤ) {f q d : ℕ} (ef : f ≡ begin back i) (eq : q ≡ first back i) (ed : d ≡ beside back n i)
    (z : WideInterval) (r : Option WideInterval) (t : SumTested z h (q - f) X q d r) where
  at_side : (Q : (p d : ℕ) → Type 0) → Q (q - f) d → Q (first back i - begin back i) (beside back n i)
  at_side Q a = subst (λ (d : ℕ). Q (first back i - begin back i) d) ed (subst (λ (p : ℕ). Q p d) (λ j. eq j - ef j) a)

  answer : {u : Option WideInterval} → r ≡ u → SumTested z h (q - f) X q d u
  answer e = subst (λ (u : Option WideInterval). SumTested z h (q - f) X q d u) e t

  pub side_none : r ≡ None → NoShare h (first back i - begin back i) (beside back n i)
  side_none e = at_side (NoShare h) (answer e)

  pub side_summed : {s : WideInterval} → held_both z ≡ zeroInterval → NearBoth 0 z → d ≤ 32 → r ≡ Some s → SideSummed back n h X i s
  side_summed g m l e =
      let a = answer e in
      record {
        shares = at_side (AllShares h) a.0;
        is = side_is back n i h [] X ef eq ed g a.1.is;
        near = near_both_more (omega arith) (a.1.near 0 m);
      }
