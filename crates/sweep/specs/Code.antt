-- What the functions beneath the sweep call ask of what is lent and promise each other.
use Rattle.std.specs.Prelude.{◌≡◌, Option, Some, None, Bool, true, false, Result, Ok, Err, is_ok, List, ℕ, ◌+◌, ◌*◌, ◌≤◌, ℤ, length}
use Rattle.outcome.specs.declared.Refusal.{Refusal}
use Rattle.outcome.specs.declared.Refusal.TheVariants as refusal
use Rattle.outcome.specs.Run.{Run, refused, done, Returned, returned, ended}
use Rattle.inputs.specs.Code.{Sound}
use Rattle.interval.specs.Interval.{is_empty}
use Rattle.inputs.specs.Place.{at, put}
use Rattle.inputs.specs.System.{System}
use Rattle.rows.specs.Sum.{once}
use Rattle.sweep.specs.declared.internal.pass.Way.{Way}
use Rattle.sweep.specs.declared.internal.pass.Way.TheVariants.{There, ThereAndBack}
use Rattle.sweep.specs.declared.Swept.{Swept}
use Rattle.sweep.specs.Pass.{component, sweep, symmetric, differs, differ}
use Rattle.sweep.specs.Call.{Log, count, ending, last, concluded}
use Rattle.sweep.specs.Calls.{run_over}

-- matrix, right side and box of n components, all of them intervals
pub record Ready (n : ℕ) (m r x : List ℤ) : Type 0 where
  pub few : n ≤ 32
  pub matrix : length m ≡ 2 * (n * n)
  pub right : length r ≡ 2 * n
  pub box : length x ≡ 2 * n
  pub matrix_sound : Sound m
  pub right_sound : Sound r
  pub box_sound : Sound x

-- a pass there, or there and back; with no way it goes over nothing
abbrev pub pass : Option Way → System → List ℤ → Run (List ℤ)
pass None s = done
pass (Some There) s = sweep once s
pass (Some ThereAndBack) s = symmetric once s

-- narrowing component i: where it is not empty, the box has it, and the flag says whether it differs from the old one
abbrev pub Narrowed : System → (i : ℕ) → (before : List ℤ) → Result Bool Refusal → (after : List ℤ) → Type 0
Narrowed s i x (Ok changed) y =
    let v = component once s x i in
    (is_empty v ≡ false) × (changed ≡ differs (at x i) v) × (y ≡ put x i v)
Narrowed s i x (Err o) y = (is_empty (component once s x i) ≡ true) × (o ≡ refusal.Empty (i + 1)) × (y ≡ x)

-- a pass as the definition has it, from what it answered and the box that it left; and the flag, which says whether it changed the box
abbrev pub run_of : Result Bool Refusal → List ℤ → Run (List ℤ)
run_of (Ok _) x = done x
run_of (Err o) x = refused o

abbrev pub Flagged : (n : ℕ) → (before after : List ℤ) → Result Bool Refusal → Type 0
Flagged n x y (Ok changed) = changed ≡ differ x y n 0
Flagged n x y (Err o) = Unit {0}

pub record Passed (run : Run (List ℤ)) (n : ℕ) (before : List ℤ) (r : Result Bool Refusal) (after : List ℤ) : Type 0 where
  pub is : run_of r after ≡ run
  pub flagged : Flagged n before after r
  pub sound : Sound after

-- the sweeps, from their log. The box that they leave is the one at the end, unless they were refused; then the lent one stands
pub record Logged (l : Log) (before : List ℤ) (r : Swept) (after : List ℤ) : Type 0 where
  pub outcome : r.outcome ≡ ending l
  pub count : r.count ≡ count l
  pub box : is_ok r.outcome ≡ true → (lent : List ℤ) → after ≡ last l lent before
  pub lent : is_ok r.outcome ≡ false → (lent : List ℤ) → lent ≡ last l lent before

-- what the call returns and leaves, from the log of its sweeps
pub record Ran (l : Log) (lent : List ℤ) (r : Swept) (after : List ℤ) : Type 0 where
  pub is : returned r.outcome r.count after ≡ concluded lent l

-- what a call whose passes go this way returns and leaves
unfoldable pub call_over : Option Way → System → (allowed : ℕ) → List ℤ → Returned (List ℤ)
call_over w s k X = ended (concluded X) X (run_over (pass w s) s k X)
