-- The entries of I − B, and one turn of each loop that forms it.
use mathlib.Core.Path.{◌≡◌, refl}
use mathlib.Core.Bool.{Bool, true, false, cond}
use mathlib.Core.List.{List}
use Prim.Native.Nat.{ℕ, ◌+◌, ◌-◌, ◌*◌, ◌≤◌, ◌<◌}
use native.Mathlib.Omega.{arith}
use borrow.Author.Tests.{eq-eqb, ne_eqb}
use lib.Dec.{eqb}
use Rattle.std.specs.Prelude.{Result}
use lib.IntN.{ℤ, pos}
use lib.ListN.{length}
use lib.Signed.{◌≤ℤ◌}
use Rattle.outcome.specs.declared.Refusal.{Refusal}
use Rattle.interval.specs.declared.Interval.{Interval}
use Rattle.interval.specs.Interval.{scale, lowest, highest, point, zero, one, within, in_range, acceptable, exact_difference}
use Rattle.interval.specs.Code.{Representable}
use Rattle.inputs.specs.Place.{at, cell}
use Rattle.inputs.specs.Code.{Sound}
use Rattle.rows.proofs.Size.{Small, acceptable_small, difference_small, small_fits}
use Rattle.outcome.specs.Run.{done}
use Rattle.forward.specs.Formed.{identity, formed_row, formed_rows}
use Rattle.forward.specs.Code.{Working, Placed, Ran}
use Rattle.forward.proofs.Index.{cell_room}
use Rattle.forward.proofs.Step.{turn, placed_turn, Turned, turned}

-- ---- an entry of I; the code has the units of 1 as a number
pub identity_same : (i j : ℕ) → i ≡ j → point (pos 1000000) ≡ identity i j
unfolding identity scale
identity_same i j e = rw (eq-eqb i j e)

pub identity_other : (i j : ℕ) → (i ≡ j → ⊥) → zero ≡ identity i j
unfolding identity
identity_other i j h = rw (ne_eqb i j h)

identity_accepted : (i j : ℕ) → acceptable (identity i j) ≡ true
unfolding identity acceptable in_range within lowest highest scale
identity_accepted i j = go (eqb i j)
  where
    go : (b : Bool) → acceptable (cond b one zero) ≡ true
    go true = refl
    go false = refl

-- ---- the entry of I − B, u less b
module _ {n i j : ℕ} {t : List ℤ} (w : Working n t × (i < n) × (j < n)) {u b : Interval} (e : u ≡ identity i j) (f : b ≡ at t (cell n i j)) where
  entry_small : Small 4000000000 (exact_difference u b)
  entry_small = rw (e, f) (difference_small (acceptable_small _ (identity_accepted i j)) (acceptable_small _ (w.0.sound.each (cell n i j))))

  pub entry_fits : Representable (exact_difference u b)
  entry_fits = small_fits (omega arith) entry_small

  module _ {v : Interval} (g : v ≡ exact_difference u b) where
    -- it can be placed
    pub entry_ready : Sound t × (2 * cell n i j + 1 < length t) × (v.lo ≤ℤ v.hi)
    entry_ready = (w.0.sound, cell_room n i j w.0 w.1 w.2, rw g entry_small.order)

    pub entry_placed : {r : Result (Unit {0}) Refusal} {t' : List ℤ} → Placed tt (i + 1) v (cell n i j) t r t' → Placed tt (i + 1) (exact_difference (identity i j) (at t (cell n i j))) (cell n i j) t r t'
    entry_placed p = rw (g, e, f) at p

-- ---- the loops
-- the columns of a row; those left are n − j
module _ (n i j : ℕ) (t : List ℤ) where
  pub formed_row_end : n ≤ j → formed_row n i (n - j) j t ≡ done t
  unfolding formed_row
  formed_row_end h = let e : n - j ≡ 0 = omega arith in rw e

  pub formed_row_turn : {r : Result (Unit {0}) Refusal} {t' : List ℤ} → j < n → Placed tt (i + 1) (exact_difference (identity i j) (at t (cell n i j))) (cell n i j) t r t' →
      Turned (formed_row n i (n - j) j t) r t' (λ t'. formed_row n i (n - (j + 1)) (j + 1) t')
  unfolding formed_row
  formed_row_turn h p = turned (rw (turn n j h) (placed_turn p _))

-- the rows; those left are n − i
module _ (n i : ℕ) (t : List ℤ) where
  pub formed_rows_end : n ≤ i → formed_rows n (n - i) i t ≡ done t
  unfolding formed_rows
  formed_rows_end h = let e : n - i ≡ 0 = omega arith in rw e

  pub formed_rows_turn : {r : Result (Unit {0}) Refusal} {t' : List ℤ} → i < n → Ran (formed_row n i n 0 t) r t' →
      Turned (formed_rows n (n - i) i t) r t' (λ t'. formed_rows n (n - (i + 1)) (i + 1) t')
  unfolding formed_rows
  formed_rows_turn h p = turned (rw (turn n i h, p.is))
