-- What the tests say when they pass, and one step of each.
use mathlib.Core.Path.{◌≡◌, refl}
use mathlib.Core.Bool.{Bool, true, false}
use mathlib.Core.Logic.{◌⊎◌, inl, inr}
use mathlib.Core.List.{List}
use Prim.Native.Nat.{ℕ, zero, suc, ◌+◌, ◌-◌, ◌*◌, ◌≤◌, ◌<◌}
use native.Mathlib.Omega.{arith}
use native.Mathlib.Nat.{mul-le-mul, add-mul, one-mul}
use borrow.Author.Tests.{le-leb, lt-leb, leb-true, eq-eqb, ne_eqb}
use lib.Dec.{leb}
use lib.IntN.{ℤ}
use lib.ListN.{length, drop, get_or, drop_of_length-le}
use lib.Seq.{drop-cons}
use Rattle.outcome.specs.declared.Refusal.{Refusal}
use Rattle.outcome.specs.declared.Refusal.TheVariants as refusal
use Rattle.interval.specs.Interval.{acceptable}
use Rattle.interval.proofs.Range.{and_both}
use Rattle.inputs.specs.Tests.{Test}
use Rattle.std.specs.Prelude.{Ok, Err}
use Rattle.inputs.specs.Place.{at}
use Rattle.inputs.specs.Tests.{both, need, sized, lengths, proper}
use Rattle.inputs.specs.declared.Slice.{Slice}

pub never : {A : Type 0} (o : Refusal) → ◌≡◌ {A = Test} (Err o) (Ok tt) → A
never o e = let z : ◌≡◌ {A = ℕ} 0 1 = cc in absurd (omega arith)

pub both_pass : (s t : Test) → both s t ≡ Ok tt → (s ≡ Ok tt) × (t ≡ Ok tt)
unfolding both
both_pass (Ok _) t e = (refl, e)
both_pass (Err o) t e = never o e

-- the first test decides, or the second does
pub both_stop : {t : Test} {o : Refusal} (u : Test) → t ≡ Err o → Err o ≡ both t u
unfolding both
both_stop u e = rw e

pub both_go : {t : Test} (u : Test) → t ≡ Ok tt → u ≡ both t u
unfolding both
both_go u e = rw e

pub both_last : (t : Test) → t ≡ both t (Ok tt)
unfolding both
both_last (Ok _) = refl
both_last (Err o) = refl

pub need_pass : (b : Bool) (o : Refusal) → need b o ≡ Ok tt → b ≡ true
unfolding need
need_pass true o e = refl
need_pass false o e = never o e

-- ---- test 1
module _ (n : ℕ) where
  pub sized_yes : 1 ≤ n → n ≤ 32 → Ok tt ≡ sized n
  unfolding sized need
  sized_yes h k = rw (le-leb 1 n h, le-leb n 32 k)

  pub sized_no : ((1 ≤ n) × (32 < n)) ⊎ (n < 1) → Err refusal.Size ≡ sized n
  unfolding sized need
  sized_no (inl h) = rw (le-leb 1 n h.0, lt-leb n 32 h.1)
  sized_no (inr h) = rw (lt-leb 1 n h)

  pub sized_pass : sized n ≡ Ok tt → (1 ≤ n) × (n ≤ 32)
  unfolding sized
  sized_pass e =
      let b = and_both (leb 1 n) (leb n 32) (need_pass _ refusal.Size e) in
      (leb-true 1 n b.0, leb-true n 32 b.1)

-- ---- test 2
pub square : (n : ℕ) → n ≤ 32 → n * n ≤ 1024
square n h = mul-le-mul {n₁ = n} {m₁ = n} {n₂ = 32} {m₂ = 32} h h

-- row k lies before row i
pub rows_apart : (n k i : ℕ) → k < i → k * n + n ≤ i * n
rows_apart n k i h =
    let e : (k + 1) * n ≡ k * n + n = rw (add-mul k 1 n, one-mul n) in
    rw (← e) (mul-le-mul {n₁ = k + 1} {m₁ = n} {n₂ = i} {m₂ = n} (omega arith) (omega arith))

-- one step over the slices
module _ (ss : List Slice) (i : ℕ) where
  pub lengths_end : length ss ≤ i → Ok tt ≡ lengths (drop i ss)
  unfolding lengths
  lengths_end h = rw (drop_of_length-le ss h)

  module _ (z : Slice) (h : i < length ss) where
    pub lengths_wrong : ((get_or ss i z).held ≡ (get_or ss i z).wanted → ⊥) → Err (refusal.Length (get_or ss i z).place) ≡ lengths (drop i ss)
    unfolding lengths need both
    lengths_wrong k = rw (drop-cons ss i z h, ne_eqb _ _ k)

    pub lengths_right : (get_or ss i z).held ≡ (get_or ss i z).wanted → lengths (drop (i + 1) ss) ≡ lengths (drop i ss)
    unfolding lengths need both
    lengths_right k = let e : i + 1 ≡ suc i = omega arith in rw (e, drop-cons ss i z h, eq-eqb _ _ k)

-- ---- test 3, one step of its loop; the intervals left are count − p
module _ (t : List ℤ) (count p from : ℕ) where
  pub proper_end : count ≤ p → proper t (count - p) p from ≡ Ok tt
  unfolding proper
  proper_end h = let e : count - p ≡ 0 = omega arith in rw e

  pub proper_go : p < count → acceptable (at t p) ≡ true → proper t (count - p) p from ≡ proper t (count - (p + 1)) (p + 1) from
  unfolding proper need both
  proper_go h e = let f : count - p ≡ suc (count - (p + 1)) = omega arith in rw (f, e)

  pub proper_out : p < count → acceptable (at t p) ≡ false → proper t (count - p) p from ≡ Err (refusal.Ends (from + p))
  unfolding proper need both
  proper_out h e = let f : count - p ≡ suc (count - (p + 1)) = omega arith in rw (f, e)

-- each of the intervals tested is one
pub proper_each : (t : List ℤ) (d p from : ℕ) → proper t d p from ≡ Ok tt → (k : ℕ) → k < d → acceptable (at t (p + k)) ≡ true
unfolding proper
proper_each t zero p from e k h = absurd (omega arith)
proper_each t (suc d) p from e zero h =
    let f : p + 0 ≡ p = omega arith in
    rw f (need_pass _ (refusal.Ends (from + p)) (both_pass _ (proper t d (p + 1) from) e).0)
proper_each t (suc d) p from e (suc k) h =
    let f : p + suc k ≡ p + 1 + k = omega arith in
    rw f (proper_each t d (p + 1) from (both_pass _ (proper t d (p + 1) from) e).1 k (omega arith))

-- and all of them pass it
pub proper_all : (t : List ℤ) (d p from : ℕ) → ((k : ℕ) → k < d → acceptable (at t (p + k)) ≡ true) → proper t d p from ≡ Ok tt
unfolding proper need both
proper_all t zero p from h = refl
proper_all t (suc d) p from h =
    let e : p + 0 ≡ p = omega arith in
    let a : acceptable (at t p) ≡ true = rw e at (h 0 (omega arith)) in
    rw a (proper_all t d (p + 1) from (λ k l. let f : p + suc k ≡ p + 1 + k = omega arith in rw f at (h (suc k) (omega arith))))
