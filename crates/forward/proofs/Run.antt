-- What a run that went to its end says of its parts.
use mathlib.Core.Path.{◌≡◌, refl}
use mathlib.Core.Bool.{Bool, true, false, cond}
use mathlib.Core.List.{List}
use Prim.Native.Nat.{ℕ, suc, ◌+◌, ◌-◌}
use lib.IntN.{ℤ, pos}
use lib.ListN.{set}
use Rattle.outcome.specs.declared.Refusal.TheVariants as refusal
use Rattle.interval.specs.declared.Interval.{Interval}
use Rattle.interval.specs.Interval.{in_range}
use Rattle.inputs.specs.Place.{at, cell}
use Rattle.outcome.specs.Run.{Run, refused, done}
use Rattle.outcome.proofs.Run.{never, done_same, joined}
use Rattle.forward.specs.Run.{in_range_then}
use Rattle.forward.specs.Pivot.{Pivoting, swapped}
use Rattle.forward.specs.Forward.{Table, table, taking, rows, pivots}

pub record Ranged (v : Interval) (f : Interval → Run (List ℤ)) (t : List ℤ) : Type 0 where
  pub in_range_lem : in_range v ≡ true
  pub rest : f v ≡ done t

pub ranged : (row : ℕ) (v : Interval) (f : Interval → Run (List ℤ)) (t : List ℤ) → in_range_then row v f ≡ done t → Ranged v f t
unfolding in_range_then
ranged row v f t = go (in_range v) refl
  where
    go : (b : Bool) → in_range v ≡ b → cond b (f v) (refused (refusal.OutOfRange row)) ≡ done t → Ranged v f t
    go true p e = record { in_range_lem = p; rest = e }
    go false p e = never e

-- one step of a forward part
pub record Stepped (p : Pivoting) (n d k : ℕ) (s s' : Table) : Type 0 where
  pub row : ℕ
  pub chosen : p n k s.numbers ≡ done row
  pub mid : List ℤ
  pub below : rows n k (at (swapped n k row s.numbers) (cell n k k)) (n - (k + 1)) (k + 1) (swapped n k row s.numbers) ≡ done mid
  pub rest : pivots p n d (k + 1) (table mid (set s.taken k (pos row))) ≡ done s'

pub stepped : (p : Pivoting) (n d k : ℕ) (s s' : Table) → pivots p n (suc d) k s ≡ done s' → Stepped p n d k s s'
unfolding pivots taking
stepped p n d k s s' e =
    let a = joined _ _ s' e in
    let c = joined _ _ a.mid a.first in
    let b = joined _ _ s' (rw (← (done_same c.rest)) at a.rest) in
    record { row = c.mid; chosen = c.first; mid = b.mid; below = b.first; rest = b.rest }
