-- The solution that document 01 names for its fifth sample, checked on numerals.
use mathlib.Core.Path.{refl}
use mathlib.Core.List.{[], ◌∷◌}
use Prim.Native.Nat.{ℕ, zero, suc, ◌<◌}
use native.Mathlib.Omega.{arith}
use lib.IntN.{pos, negsuc}
use lib.Signed.{le_z_yes, lt_z_yes}
use Rattle.integer.specs.Rounding.{floor_div, ceil_div}
use Rattle.integer.specs.Extremes.{minimum, maximum}
use Rattle.outcome.specs.Run.{and_then, ended}
use Rattle.interval.specs.Interval.{scale, lowest, highest, within, in_range, acceptable, contains_zero, exact_difference, rounded, quotient_at}
use Rattle.fraction.specs.Fraction.{Fraction, Inside, Same, sum, product_at}
use Rattle.inputs.specs.Place.{at, put, cell, numbers}
use Rattle.inputs.specs.Tests.{both, need, sized, lengths, sizes, proper, all_proper, tested}
use Rattle.inputs.specs.System.{tests}
use Rattle.rows.specs.Sum.{exactly, once}
use Rattle.rows.specs.Exact.{exact_row}
use Rattle.forward.specs.Run.{in_range_then}
use Rattle.forward.specs.Pivot.{lowest_from, lowest_row, exchanged, swapped_columns, swapped}
use Rattle.forward.specs.Forward.{taking, rows, pivots, forward}
use Rattle.elimination.specs.Back.{numerator, back}
use Rattle.elimination.specs.Call.{copied, box, solved, run_A, over_A}
use Rattle.forward.specs.Formed.{identity}
use Rattle.accuracy.specs.Solution.{balance_of}
use Rattle.accuracy.specs.Claim.{Accepted}
use Rattle.accuracy.specs.Example.{fifth, weight, reached, Example}

-- the coefficient is 1 − 4/3
abbrev coefficient : Fraction
coefficient = record { num = negsuc 999999; den = pos 3; above = lt_z_yes tt }

abbrev constant : Fraction
constant = record { num = pos 9000000; den = pos 7; above = lt_z_yes tt }

coefficient_in : (i j : ℕ) → i < 1 → j < 1 → Inside (at (balance_of fifth).matrix (cell 1 i j)) coefficient
unfolding balance_of numbers at exact_difference identity scale
coefficient_in zero zero h k = record { low = le_z_yes tt; high = le_z_yes tt }
coefficient_in zero (suc j) h k = absurd (omega arith)
coefficient_in (suc i) j h k = absurd (omega arith)

constant_in : (i : ℕ) → i < 1 → Inside (at (balance_of fifth).right i) constant
unfolding balance_of at
constant_in zero h = record { low = le_z_yes tt; high = le_z_yes tt }
constant_in (suc i) h = absurd (omega arith)

in_box : (j : ℕ) → j < 1 → Inside (at reached j) weight
unfolding at
in_box zero h = record { low = le_z_yes tt; high = le_z_yes tt }
in_box (suc j) h = absurd (omega arith)

row : Same weight (exact_row (λ j. coefficient) (λ j. weight) 1 0 constant)
unfolding exact_row sum product_at scale
row = record { holds = refl }

-- what elimination writes for it, by computation
accepted : Accepted (over_A fifth) (pos 0 ∷ pos 0 ∷ []) reached
unfolding floor_div ceil_div minimum maximum scale lowest highest within in_range acceptable contains_zero exact_difference rounded quotient_at at put both need sized lengths sizes proper all_proper tested exactly once and_then in_range_then lowest_from lowest_row exchanged swapped_columns swapped taking rows pivots forward numerator back copied box solved tests run_A ended
accepted = record { returned = refl; left = refl }

pub example : Example
unfolding balance_of at
example =
    record {
      accepted = accepted;
      solves = record {
        choice = record { coefficient = λ i j. coefficient; constant = λ i. constant; coefficient_in = coefficient_in; constant_in = constant_in };
        meets = record { row = λ i h. row };
      };
      in_box = record { each = in_box };
      missed = λ h. (h.each 0 (omega arith)).low.le;
    }
