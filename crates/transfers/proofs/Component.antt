-- Vat numbers as naturals.
use mathlib.Core.Path.{◌≡◌, refl, sym, ap, subst, ◌∙◌}
use mathlib.Core.Bool.{true}
use Prim.Native.Nat.{ℕ, suc, ◌+◌, ◌-◌, ◌≤◌, ◌<◌}
use native.Mathlib.Omega.{arith}
use borrow.Author.Tests.{leb-true, le-leb}
use lib.Dec.{leb, T}
use lib.IntN.{ℤ, pos, negsuc, nat_abs}
use lib.Signed.{lt_z}
use mir.Syntax.{w64}
use mir.Val.{SFits}
use Rattle.interval.proofs.Range.{and_both}
use Rattle.transfers.specs.declared.Transfer.{Transfer}
use Rattle.transfers.specs.Listing.{is_component, both_components}
use Rattle.transfers.specs.Rows.{Later}

-- a vat number, with the row or column that it has from 0
pub record Component (n : ℕ) (v : ℤ) : Type 0 where
  pub row : ℕ
  pub is : v ≡ pos (row + 1)
  pub below : row < n

one_more : (m : ℕ) → 1 ≤ m → m ≡ m - 1 + 1
one_more m h = omega arith

pub component : (n : ℕ) (v : ℤ) → is_component n v ≡ true → Component n v
unfolding is_component
component n (pos m) e =
    let b = and_both (leb 1 m) (leb m n) e in
    let l = leb-true 1 m b.0 in
    let h = leb-true m n b.1 in
    record { row = m - 1; is = ap pos (one_more m l); below = omega arith }
component n (negsuc m) e = let z : ◌≡◌ {A = ℕ} 0 1 = cc in absurd (omega arith)

pub component_row : {n : ℕ} {v : ℤ} (a : Component n v) → nat_abs v - 1 ≡ a.row
component_row a = let e : a.row + 1 - 1 ≡ a.row = omega arith in ap (λ z. nat_abs z - 1) a.is ∙ e

pub receiver : (n : ℕ) (t : Transfer) → both_components n t ≡ true → is_component n t.receiver ≡ true
unfolding both_components
receiver n t e = (and_both (is_component n t.receiver) (is_component n t.giver) e).0

pub giver : (n : ℕ) (t : Transfer) → both_components n t ≡ true → is_component n t.giver ≡ true
unfolding both_components
giver n t e = (and_both (is_component n t.receiver) (is_component n t.giver) e).1

-- a number past the first ones, so many
pub later : (first : ℕ) (v : ℤ) → SFits w64 v → lt_z (pos first) v ≡ true → Later first v
later first (pos m) f a = record { is = refl; past = leb-true (suc first) m a; few = few f }
  where
    few : SFits w64 (pos m) → m ≤ 9223372036854775807
    few h = let k = h.sfits in omega (arith, k)
later first (negsuc m) f a = absurd (subst T (sym a) tt)

pub later_tested : {first : ℕ} {v : ℤ} → Later first v → lt_z (pos first) v ≡ true
later_tested {first} {v} l = rw l.is (le-leb (suc first) (nat_abs v) l.past)

-- and at most n
pub later_component : (n : ℕ) {first : ℕ} {v : ℤ} → Later first v → nat_abs v ≤ n → is_component n v ≡ true
unfolding is_component
later_component n {v = v} l h = rw (l.is, le-leb 1 (nat_abs v) (omega (arith, l.past)), le-leb (nat_abs v) n h)
