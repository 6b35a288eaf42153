-- The accuracy rule, for a list of one call after an elimination from B and b, is what the sheet's box came from.
use mathlib.Core.Path.{◌≡◌, refl, sym, ◌∙◌}
use mathlib.Core.Bool.{true}
use mathlib.Core.List.{List, [], ◌∷◌, ◌++◌}
use Prim.Native.Nat.{ℕ, ◌*◌}
use lib.IntN.{ℤ, pos}
use lib.ListN.{replicate}
use Rattle.std.specs.Prelude.{Some}
use Rattle.fraction.specs.Fraction.{Fraction}
use Rattle.inputs.specs.System.{System}
use Rattle.elimination.specs.Call.{over_B}
use Rattle.sweep.specs.Calls.{sweep_call, run, Change, sweeps_of, changes_by}
use Rattle.accuracy.specs.Solution.{Solution}
use Rattle.accuracy.specs.Claim.{from_B, Bounded, Every}
use Rattle.accuracy.proofs.Rule.{accuracy}
use Rattle.report.specs.Call.{calculation, solved, reached}
use Rattle.report.proofs.ReadBack.{reached_eliminated, reached_swept, sheet_back}
use Rattle.sheet_accuracy.specs.Claim.{SheetCovered}

-- the last change of a list of one call is the call's
last_change : (P : Change → Type 0) (l : List Change) (c : Change) → Every P (l ++ (c ∷ [])) → P c
last_change P [] c h = h.0
last_change P (d ∷ l) c h = last_change P l c h.1

module _ (s : System) (X : List ℤ) (h : reached (calculation s X) ≡ true) (x : ℕ → Fraction) (sol : Solution s x) where
  calculation_bounded : Bounded s.size (calculation s X).left x
  unfolding changes_by
  calculation_bounded =
      let Y = (over_B s X).left in
      let start = from_B X (record { returned = reached_eliminated s X h; left = refl }) in
      let b = (accuracy s Y start (sweep_call 100 ∷ [])).bounded_after x sol tt in
      rw (reached_swept s X h) (last_change (λ c. Bounded s.size c.after x) (sweeps_of (run s (sweep_call 100) Y) Y) _ b)

same_box : {x y : List ℤ} → Some x ≡ Some y → x ≡ y
same_box e = cc

pub covered : SheetCovered
unfolding solved
covered text c e h box f x sol =
    let s = c.balance in
    let q : box ≡ (solved s).left = same_box (sym f ∙ sheet_back text c e h) in
    rw q (calculation_bounded s (replicate (2 * s.size) (pos 0)) h x sol)
