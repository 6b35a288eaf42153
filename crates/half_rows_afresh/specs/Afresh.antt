-- Document 02, A6: the operations if nothing were kept, and every sum worked out afresh.
use Rattle.std.specs.Prelude.{Bool, true, false, not, cond, ◌&&◌, List, ℕ, ◌-◌, eqb, leb, ℤ}
use Rattle.outcome.specs.declared.Refusal.TheVariants as refusal
use Rattle.outcome.specs.Run.{Run, refused, done, and_then}
use Rattle.interval.specs.declared.Interval.{Interval}
use Rattle.interval.specs.Interval.{acceptable, intersection, is_empty}
use Rattle.inputs.specs.Place.{at, put}
use Rattle.inputs.specs.Tests.{tested}
use Rattle.inputs.specs.System.{System}
use Rattle.rows.specs.Sum.{once}
use Rattle.sweep.specs.Pass.{along}
use Rattle.sweep.specs.Call.{tests}
use Rattle.half_rows.specs.Rows.{components}
use Rattle.half_rows.specs.State.{size_of, turn_of, box_of, system_of, due}
use Rattle.half_rows.specs.Operations.{Operation, load, half_pass, narrowing}

-- what a state stands for: nothing, or a system, whether the half pass back is due, and a box
pub data Held : Type 0 where
  nothing : Held
  held : (s : System) (back : Bool) (X : List ℤ) → Held

unfoldable pub held_in : List ℤ → Held
held_in t = cond (eqb (size_of t) 0) nothing (held (system_of t (size_of t)) (eqb (turn_of t) (due true)) (box_of t (size_of t)))

-- a half pass is one way of the pass there and back, document 02, A5; out of turn it is 19
unfoldable pub afresh_pass : (back : Bool) → Held → Run Held
afresh_pass back nothing = refused refusal.NotDue
afresh_pass back (held s b X) =
    cond (cond b back (not back)) (and_then (along once s (components back s.size) X) (λ Y. done (held s (not back) Y)))
    (refused refusal.NotDue)

unfoldable pub afresh_narrowing : (vat : ℕ) → Interval → Held → Run Held
afresh_narrowing vat w nothing = refused refusal.NotDue
afresh_narrowing vat w (held s b X) =
    cond (leb 1 vat && leb vat s.size)
    (cond (acceptable w)
    (cond (is_empty (intersection w (at X (vat - 1)))) (refused (refusal.Empty vat))
    (done (held s b (put X (vat - 1) (intersection w (at X (vat - 1)))))))
    (refused (refusal.Ends 0)))
    (refused refusal.NoComponent)

unfoldable pub afresh : Operation → Held → Run Held
afresh (load s X) h = tested (tests s 1 X) (done (held s false X))
afresh (half_pass back) h = afresh_pass back h
afresh (narrowing vat w) h = afresh_narrowing vat w h
