-- Document 02, A4: 'Refusal 6 is never new', and the elimination box lies inside the former one.
use Rattle.std.specs.Prelude.{◌≡◌, ◌≢◌, List, ℕ, ◌≤◌, ℤ}
use Rattle.outcome.specs.declared.Refusal.{Refusal}
use Rattle.outcome.specs.Run.{Run, refused, and_then, Returned}
use Rattle.inputs.specs.System.{System}
use Rattle.rows.specs.Sum.{singly}
use Rattle.forward.specs.Pivot.{lowest_row}
use Rattle.forward.specs.Forward.{Table, table, forward}
use Rattle.forward.specs.Formed.{formed_rows}
use Rattle.elimination.specs.Call.{copied, none_taken, ended_A, ended_B, over_A, over_B}
use Rattle.accuracy.specs.Claim.{Narrowed}

-- what precedes back-substitution: the forward part over A and f, and over B and b with I − B before it
abbrev pub forward_A : System → Run Table
forward_A s = forward lowest_row s.size (table (copied s) none_taken)

abbrev pub forward_B : System → Run Table
forward_B s = and_then (formed_rows s.size s.size 0 (copied s)) (λ t. forward lowest_row s.size (table t none_taken))

-- what a call over n vats returned and left formerly, and now
pub record Beside (n : ℕ) (former new : Returned (List ℤ)) : Type 0 where
  -- a balance accepted formerly is accepted, with a box inside the former one
  pub accepted : former.number ≡ 0 → (new.number ≡ 0) × Narrowed n former.left new.left
  -- 6 only where the former said 6, at that row or at one that back-substitution, which goes from row n to row 1, reaches later
  pub six : new.number ≡ 6 → (former.number ≡ 6) × (new.place ≤ former.place)
  -- every other refusal as before, and none but a 6 is gone
  pub others : new.number ≢ 0 → new.number ≢ 6 → new ≡ former
  pub stay : former.number ≢ 0 → former.number ≢ 6 → new ≡ former

pub record SixNeverNew : Type 0 where
  pub from_A : (s : System) (box : List ℤ) → Beside s.size (ended_A lowest_row singly s box) (over_A s box)
  pub from_B : (s : System) (box : List ℤ) → Beside s.size (ended_B lowest_row singly s box) (over_B s box)
  -- what is refused before back-substitution, with 5 or 6, is refused exactly as before
  pub as_before_A : (s : System) (box : List ℤ) (o : Refusal) → forward_A s ≡ refused o → over_A s box ≡ ended_A lowest_row singly s box
  pub as_before_B : (s : System) (box : List ℤ) (o : Refusal) → forward_B s ≡ refused o → over_B s box ≡ ended_B lowest_row singly s box
