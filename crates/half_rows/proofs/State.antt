-- The size of a state, where its parts end, and the number of the half pass that is due.
use mathlib.Core.Path.{◌≡◌, refl, sym, subst}
use mathlib.Core.Logic.{◌≢◌}
use mathlib.Core.Bool.{Bool, true, false, cond, not, ◌&&◌}
use mathlib.Core.List.{List}
use Prim.Native.Nat.{ℕ, ◌+◌, ◌≤◌}
use native.Mathlib.Omega.{arith}
use denote.Enum.Declared.{tag_of}
use borrow.Author.Tests.{eq-eqb}
use lib.Dec.{T, eqb, eqb→eq, leb→le}
use lib.IntN.{ℤ, pos, negsuc, ◌+ℤ◌, nat_abs}
use lib.ListN.{length, get_or}
use lib.Signed.{◌≤ℤ◌, le_z}
use mir.Syntax.{w64}
use mir.Val.{to_z, of_z}
use Rattle.std.specs.Prelude.{Option, Some, None}
use Rattle.std.specs.Option.{MatchOption, option_eq}
use Rattle.integer.proofs.Order.{le_taken}
use Rattle.half_rows.specs.contracts.internal.way.Way.{the_type}
use Rattle.half_rows.specs.contracts.internal.way.WayPartialEq.TheImpl.{eq-value}
use Rattle.half_rows.specs.declared.internal.way.Way.{Way}
use Rattle.half_rows.specs.declared.internal.way.Way.TheVariants.{Up, Down}
use Rattle.half_rows.specs.State.{state_length, up_to, size_of, sums_place, due}
use Rattle.half_rows.specs.Code.{is_back}

-- ---- a number from 1 to k
module _ (k : ℕ) (z : ℤ) where
  pub up_to_in : le_z (pos 1) z ≡ true → le_z z (pos k) ≡ true → nat_abs z ≡ up_to k z
  unfolding up_to
  up_to_in a b = rw (a, b)

  pub up_to_above : le_z (pos 1) z ≡ true → le_z z (pos k) ≡ false → 0 ≡ up_to k z
  unfolding up_to
  up_to_above a b = rw (a, b)

  pub up_to_below : le_z (pos 1) z ≡ false → 0 ≡ up_to k z
  unfolding up_to
  up_to_below a = rw a

  pub up_to_most : up_to k z ≤ k
  unfolding up_to
  up_to_most = go (le_z (pos 1) z) (le_z z (pos k)) refl refl
    where
      few : (z : ℤ) → z ≤ℤ pos k → le_z (pos 1) z ≡ true → nat_abs z ≤ k
      few (pos n) l e = leb→le n k l.le
      few (negsuc n) l e = absurd (subst T (sym e) tt)

      go : (a b : Bool) → le_z (pos 1) z ≡ a → le_z z (pos k) ≡ b → cond (a && b) (nat_abs z) 0 ≤ k
      go true true p q = few z (le_taken z (pos k) q) p
      go true false p q = omega arith
      go false b p q = omega arith

-- ---- the size
module _ (t : List ℤ) where
  pub size_is : length t ≡ state_length → up_to 32 (get_or t 0 (pos 0)) ≡ size_of t
  unfolding size_of
  size_is h = rw (eq-eqb (length t) state_length h)

  -- a state that has one
  pub sized : size_of t ≢ 0 → (length t ≡ state_length) × (size_of t ≤ 32)
  unfolding size_of
  sized h = go (eqb (length t) state_length) refl h
    where
      go : (b : Bool) → eqb (length t) state_length ≡ b → cond b (up_to 32 (get_or t 0 (pos 0))) 0 ≢ 0 → (length t ≡ state_length) × (cond b (up_to 32 (get_or t 0 (pos 0))) 0 ≤ 32)
      go true e f = (eqb→eq (length t) state_length (subst T (sym e) tt), up_to_most 32 (get_or t 0 (pos 0)))
      go false e f = absurd (f refl)

-- ---- parts
pub sums_end : (back : Bool) → sums_place back + 128 ≤ 386
unfolding sums_place
sums_end true = omega arith
sums_end false = omega arith

-- ---- the turn is 1 or 2
pub due_few : (back : Bool) → due back ≤ 2
unfolding due
due_few true = omega arith
due_few false = omega arith

-- ---- the number of a way, as the code has it
pub number_is : (w : Way) → to_z w64 (of_z w64 (to_z w64 (tag_of the_type w) +ℤ pos 1)) ≡ pos (due (is_back w))
unfolding due
number_is Up = refl
number_is Down = refl

-- ---- the turn, as the code compares it
pub other_turn : (o : Option Way) (w : Way) {k : ℕ} → not (option_eq eq-value.it o (Some w)) ≡ true → MatchOption o (k ≡ 0) (λ (v : Way). k ≡ due (is_back v)) → k ≢ due (is_back w)
unfolding due
other_turn None Up e f g = omega arith
other_turn None Down e f g = omega arith
other_turn (Some Up) Up e f g = cc
other_turn (Some Up) Down e f g = omega arith
other_turn (Some Down) Up e f g = omega arith
other_turn (Some Down) Down e f g = cc

pub same_turn : (o : Option Way) (w : Way) {k : ℕ} → not (option_eq eq-value.it o (Some w)) ≡ false → MatchOption o (k ≡ 0) (λ (v : Way). k ≡ due (is_back v)) → k ≡ due (is_back w)
unfolding due
same_turn None w e f = cc
same_turn (Some Up) Up e f = f
same_turn (Some Up) Down e f = cc
same_turn (Some Down) Up e f = cc
same_turn (Some Down) Down e f = f
