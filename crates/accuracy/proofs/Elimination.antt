-- Elimination encloses every exact solution.
use mathlib.Core.Path.{◌≡◌, sym, ap, ◌∙◌}
use mathlib.Core.Logic.{inr}
use mathlib.Core.List.{List}
use Prim.Native.Nat.{ℕ, ◌+◌, ◌*◌, ◌≤◌, ◌<◌}
use native.Mathlib.Omega.{arith}
use lib.IntN.{ℤ, pos}
use lib.ListN.{length}
use lib.Signed.{◌<ℤ◌}
use Rattle.interval.specs.Interval.{exact_difference}
use Rattle.fraction.specs.Fraction.{Fraction, Inside}
use Rattle.fraction.proofs.Inside.{inside_same}
use Rattle.inputs.specs.Place.{at, cell}
use Rattle.inputs.specs.System.{System, tests}
use Rattle.inputs.proofs.System.{ready}
use Rattle.inputs.proofs.Accepted.{tested_done}
use Rattle.rows.specs.Sum.{RowSum, once}
use Rattle.rows.specs.Exact.{Encloses}
use Rattle.rows.proofs.Encloses.{once_encloses}
use Rattle.outcome.specs.Run.{done}
use Rattle.outcome.proofs.Run.{done_same, joined}
use Rattle.forward.specs.Run.{rhs}
use Rattle.forward.specs.Formed.{identity}
use Rattle.forward.specs.Pivot.{lowest_row}
use Rattle.forward.specs.Forward.{table}
use Rattle.elimination.specs.Call.{copied, none_taken, solved, run_A, run_B}
use Rattle.forward.proofs.Kept.{forward_pivots}
use Rattle.elimination.proofs.Call.{copied_working}
use Rattle.accuracy.specs.Solution.{Solution, InBox, balance_of}
use Rattle.accuracy.proofs.Common.{ratio, common}
use Rattle.accuracy.proofs.Row.{Row, Holds, Met}
use Rattle.accuracy.proofs.Forward.{forward_holds}
use Rattle.accuracy.proofs.Back.{back_holds}
use Rattle.accuracy.proofs.Formed.{identity_twice, rows_formed}
use Rattle.accuracy.proofs.Balance.{row_of, row_holds, balance_met}
use Rattle.accuracy.proofs.Copy.{copied_cell, copied_right, box_at, balance_cell}

-- ---- weights that meet exact rows inside a list lie inside the box that is found from it
pub solved_inside : (sum : RowSum) → Encloses sum → (n : ℕ) (t X : List ℤ) → 2 * (n * n + n) ≤ length t → solved lowest_row sum n t ≡ done X →
    (R : ℕ → Row) → ((l : ℕ) → l < n → Holds n t l 0 (R l)) →
    (w : ℕ → ℤ) (q : ℤ) (above : pos 0 <ℤ q) → ((l : ℕ) → l < n → Met n 0 (R l) w q) →
    (j : ℕ) → j < n → Inside (at X j) (ratio (w j) q above)
unfolding solved
solved_inside sum encloses n t X room e R H w q above M j h =
    let a = joined _ _ X e in
    let b = joined _ _ X a.rest in
    let f = forward_holds n R (table t none_taken) a.mid room H a.first in
    let P = forward_pivots n (table t none_taken) a.mid room a.first in
    rw (← (done_same b.rest), box_at n b.mid j h)
    (back_holds sum encloses n w q above f.left ((f.met w q).0 M) a.mid.numbers b.mid (omega (arith, f.as_long)) P f.holds b.first j h)

-- ---- a solution of the balance that a list holds as I − B and b
module _ (sum : RowSum) (encloses : Encloses sum) (s : System) (t X : List ℤ) (room : 2 * (s.size * s.size + s.size) ≤ length t) (run : solved lowest_row sum s.size t ≡ done X)
    (cells : (i j : ℕ) → i < s.size → j < s.size → at t (cell s.size i j) ≡ exact_difference (identity i j) (at s.matrix (cell s.size i j)))
    (right : (i : ℕ) → i < s.size → at t (rhs s.size i) ≡ at s.right i) where
  pub solution_inside : (x : ℕ → Fraction) → Solution s x → InBox s.size X x
  solution_inside x sol =
      let c = sol.choice in
      let w = common s.size x in
      record {
        each = λ j h.
            inside_same (w.same j h)
            (solved_inside sum encloses s.size t X room run
            (λ i. row_of s.size (c.coefficient i) (c.constant i) i)
            (λ i l. row_holds s.size (c.coefficient i) (c.constant i) t s.matrix s.right i (λ j k. cells i j l k) (right i l) (λ j k. c.coefficient_in i j l k) (c.constant_in i l))
            w.num w.den w.above
            (λ i l. (balance_met s.size (c.coefficient i) (c.constant i) x i l).0 (sol.meets.row i l))
            j h);
      }

-- the call over A and f: the list holds A, which is I − (I − A)
pub over_A : (s : System) (l : ℕ) (X : List ℤ) → run_A lowest_row once s l ≡ done X → (x : ℕ → Fraction) → Solution (balance_of s) x → InBox s.size X x
unfolding run_A balance_of
over_A s l X e =
    let a = tested_done (tests s l) _ X e in
    let r = ready s l a.0 in
    let m = r.fitting.matrix in
    solution_inside once once_encloses (balance_of s) (copied s) X (copied_working s l r).room a.1
    (λ i j h k. copied_cell s m i j h k ∙ sym (ap (exact_difference (identity i j)) (balance_cell s i j h k) ∙ identity_twice i j _))
    (copied_right s m r.fitting.right)

-- the call over B and b: I − B is formed first
pub over_B : (s : System) (l : ℕ) (X : List ℤ) → run_B lowest_row once s l ≡ done X → (x : ℕ → Fraction) → Solution s x → InBox s.size X x
unfolding run_B
over_B s l X e =
    let a = tested_done (tests s l) _ X e in
    let r = ready s l a.0 in
    let m = r.fitting.matrix in
    let b = joined _ _ X a.1 in
    let room = (copied_working s l r).room in
    let f = rows_formed s.size s.size 0 (copied s) b.mid (omega arith) room b.first in
    solution_inside once once_encloses s b.mid X (omega (arith, f.as_long, room)) b.rest
    (λ i j h k. f.new i j (omega arith) h k ∙ ap (exact_difference (identity i j)) (copied_cell s m i j h k))
    (λ i h. f.old (rhs s.size i) (inr (omega arith)) ∙ copied_right s m r.fitting.right i h)
