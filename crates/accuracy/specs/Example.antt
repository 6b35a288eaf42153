-- Document 01, Tempting, and false: the rule is not about nothing. For A = [1, 1.6] and f = [1, 2] the weight 27/28 is a solution, for
-- 4/3 and 9/7; it lies in the box that elimination writes, [0.625, 2], and not in [1, 1.25], the box with A·x equal to f.
use Rattle.std.specs.Prelude.{List, [], ◌∷◌, ℤ, pos}
use Rattle.std.specs.Int.Signed.{lt_z_yes}
use Rattle.fraction.specs.Fraction.{Fraction}
use Rattle.inputs.specs.System.{System, system}
use Rattle.elimination.specs.Call.{over_A}
use Rattle.accuracy.specs.Solution.{Solution, InBox, balance_of}
use Rattle.accuracy.specs.Claim.{Accepted}

abbrev pub fifth : System
fifth = system 1 (pos 1_000_000 ∷ pos 1_600_000 ∷ []) (pos 1_000_000 ∷ pos 2_000_000 ∷ [])

abbrev pub weight : Fraction
weight = record { num = pos 27_000_000; den = pos 28; above = lt_z_yes tt }

abbrev pub reached : List ℤ
reached = pos 625_000 ∷ pos 2_000_000 ∷ []

pub record Example : Type 0 where
  pub accepted : Accepted (over_A fifth) (pos 0 ∷ pos 0 ∷ []) reached
  pub solves : Solution (balance_of fifth) (λ j. weight)
  pub in_box : InBox 1 reached (λ j. weight)
  pub missed : InBox 1 (pos 1_000_000 ∷ pos 1_250_000 ∷ []) (λ j. weight) → ⊥
