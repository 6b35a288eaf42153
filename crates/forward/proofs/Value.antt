-- The values that the calculation makes fit the machine and have their ends in sequence; in the range, they are intervals again.
use mathlib.Core.Path.{◌≡◌, refl}
use mathlib.Core.Bool.{Bool, true, false, ◌&&◌}
use native.Mathlib.Omega.{arith}
use lib.Signed.{◌≤ℤ◌, le_z}
use Rattle.std.proofs.Math.Bool.{and-false}
use Rattle.integer.proofs.Order.{le_taken, yes_le, trans}
use Rattle.interval.specs.declared.Interval.{Interval}
use Rattle.interval.specs.Interval.{lowest, highest, within, acceptable, contains_zero, in_range, exact_difference, product, quotient}
use Rattle.interval.specs.Code.{Representable}
use Rattle.interval.proofs.Range.{is_sound, accept}
use Rattle.fraction.specs.Fraction.{millionths}
use Rattle.fraction.proofs.Hull.{hull_order}
use Rattle.fraction.proofs.Quotient.{quotient_hull}
use Rattle.rows.proofs.Size.{Small, acceptable_small, product_small, difference_small, small_fits}

-- a − m·b
module _ (a m b : Interval) (h : acceptable a ≡ true) (k : acceptable m ≡ true) (l : acceptable b ≡ true) where
  reduced_small : Small 4002000000000 (exact_difference a (product m b))
  reduced_small = difference_small (acceptable_small a h) (product_small m b k l)

  pub reduced_fits : Representable (exact_difference a (product m b))
  reduced_fits = small_fits (omega arith) reduced_small

  pub reduced_order : (exact_difference a (product m b)).lo ≤ℤ (exact_difference a (product m b)).hi
  reduced_order = reduced_small.order

-- the range test of ends in sequence: the upper end where the lower one is not too low
pub ranged_above : (v : Interval) → v.lo ≤ℤ v.hi → le_z lowest v.lo ≡ true → le_z v.hi highest ≡ in_range v
unfolding in_range within
ranged_above v o e = go (le_z v.hi highest) refl
  where
    go : (b : Bool) → le_z v.hi highest ≡ b → b ≡ ((le_z lowest v.lo && le_z v.lo highest) && (le_z lowest v.hi && b))
    go true f = rw (e, yes_le v.lo highest (trans o (le_taken v.hi highest f)), yes_le lowest v.hi (trans (le_taken lowest v.lo e) o))
    go false f = rw (and-false (le_z lowest v.hi), and-false (le_z lowest v.lo && le_z v.lo highest))

pub ranged_below : (v : Interval) → le_z lowest v.lo ≡ false → false ≡ in_range v
unfolding in_range within
ranged_below v e = rw e

-- a quotient
pub quotient_order : (x y : Interval) → acceptable x ≡ true → acceptable y ≡ true → contains_zero y ≡ false → (quotient x y).lo ≤ℤ (quotient x y).hi
quotient_order x y e f z = hull_order (quotient_hull millionths x y z) (is_sound x e).order (is_sound y f).order

pub quotient_accepted : (x y : Interval) → acceptable x ≡ true → acceptable y ≡ true → contains_zero y ≡ false → in_range (quotient x y) ≡ true → acceptable (quotient x y) ≡ true
quotient_accepted x y e f z r = accept (quotient x y) (quotient_order x y e f z) r
