-- Document 02, A6: 'The operations are load, half pass up, half pass down, and narrowing one vat by a weighed interval.'
use Rattle.std.specs.Prelude.{Bool, true, false, not, cond, ◌&&◌, ◌||◌, List, [], ◌∷◌, ℕ, ◌+◌, ◌-◌, eqb, leb, ℤ, length}
use Rattle.outcome.specs.declared.Refusal.TheVariants as refusal
use Rattle.outcome.specs.Run.{Run, refused, done, and_then, Returned, written, ended}
use Rattle.interval.specs.declared.Interval.{Interval}
use Rattle.interval.specs.Interval.{acceptable, intersection, is_empty}
use Rattle.inputs.specs.Place.{at, put}
use Rattle.inputs.specs.Tests.{both, proper, tested}
use Rattle.inputs.specs.System.{System}
use Rattle.sweep.specs.Call.{tests}
use Rattle.half_rows.specs.Rows.{Worked, first, beside, of_state, components, half_along, renew, sides}
use Rattle.half_rows.specs.State.{state_length, empty, size_of, turn_of, box_of, system_of, sums_of, due, with_turn, with_box, with_sums, with_system}

pub data Operation : Type 0 where
  load : System → (X : List ℤ) → Operation
  half_pass : (back : Bool) → Operation
  narrowing : (vat : ℕ) → Interval → Operation

-- ---- 'Load takes n, B, b and a start box with A5's tests, and replaces the state': 4 is not among them, since no number of passes is
-- given; with one pass allowed it cannot come. Up is due, and the way up reads the sums right of the diagonal
unfoldable pub loaded_over : (t : List ℤ) → System → (X : List ℤ) → List ℤ
loaded_over t s X =
    with_turn (with_sums (with_box (with_system t s) X) true (sides true s X s.size 0 (sums_of true t s.size))) false

abbrev pub loaded : System → (X : List ℤ) → List ℤ
loaded s X = loaded_over empty s X

unfoldable pub load_run : System → (X t : List ℤ) → Run (List ℤ)
load_run s X t = cond (eqb (length t) state_length) (tested (tests s 1 X) (done (loaded s X))) (refused refusal.NotDue)

-- ---- 'The half passes take turns': one works out its side's sums, and the other one is due then. 'An empty … half pass is 7 with its vat'
unfoldable pub passed : (back : Bool) → (t : List ℤ) → Worked → List ℤ
passed back t w = with_turn (with_sums (with_box t w.box) back w.sums) (not back)

unfoldable pub pass_of : (back : Bool) → (t : List ℤ) (n : ℕ) → Run Worked
pass_of back t n =
    of_state (both (proper (box_of t n) n 0 0) (proper (system_of t n).right n 0 0))
    (half_along back (system_of t n) (sums_of (not back) t n) (components back n) (box_of t n) (sums_of back t n))

-- 19: 'nothing loaded or a half pass out of turn'
unfoldable pub pass_run : (back : Bool) → (t : List ℤ) → Run (List ℤ)
pass_run back t =
    cond (eqb (size_of t) 0) (refused refusal.NotDue)
    (cond (eqb (turn_of t) (due back)) (and_then (pass_of back t (size_of t)) (λ w. done (passed back t w))) (refused refusal.NotDue))

-- ---- 'narrowing one vat by a weighed interval': component v becomes what it has in common with w, and the kept sums that the half pass
-- now due reads, of the rows that it passes before v, are renewed. The turn stays
unfoldable pub narrowed_to : (back : Bool) → (t : List ℤ) (n v : ℕ) → (new : Interval) → Run (List ℤ)
narrowed_to back t n v new =
    and_then (renew (system_of t n) v (at (box_of t n) v) new (beside back n v) (first back v) (sums_of (not back) t n))
    (λ K. done (with_sums (with_box t (put (box_of t n) v new)) (not back) K))

unfoldable pub narrowed_of : (back : Bool) → (t : List ℤ) (n v : ℕ) → (w : Interval) → Run (List ℤ)
narrowed_of back t n v w =
    cond (acceptable (at (box_of t n) v))
    (cond (is_empty (intersection w (at (box_of t n) v))) (refused (refusal.Empty (v + 1)))
    (narrowed_to back t n v (intersection w (at (box_of t n) v))))
    (refused refusal.NotDue)

-- '19 comes first, then 20, 3, 7'
unfoldable pub narrow_run : (vat : ℕ) → Interval → (t : List ℤ) → Run (List ℤ)
narrow_run vat w t =
    cond (eqb (size_of t) 0 || eqb (turn_of t) 0) (refused refusal.NotDue)
    (cond (leb 1 vat && leb vat (size_of t))
    (cond (acceptable w) (narrowed_of (eqb (turn_of t) (due true)) t (size_of t) (vat - 1) w) (refused (refusal.Ends 0)))
    (refused refusal.NoComponent))

-- ---- an operation on a state; what it returns and leaves: 'a refusal changes nothing in the state', and there is no count
unfoldable pub run : Operation → (t : List ℤ) → Run (List ℤ)
run (load s X) t = load_run s X t
run (half_pass back) t = pass_run back t
run (narrowing vat w) t = narrow_run vat w t

unfoldable pub operate : Operation → (t : List ℤ) → Returned (List ℤ)
operate o t = ended written t (run o t)

-- the state after a list of operations, refused ones too
unfoldable pub after : List Operation → (t : List ℤ) → List ℤ
after [] t = t
after (o ∷ os) t = after os (operate o t).left
