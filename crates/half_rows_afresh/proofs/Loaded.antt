-- What is true of every state that the operations made: nothing is loaded, or the kept sums that the half pass now due reads are fresh.
use mathlib.Core.Path.{◌≡◌, refl, sym, ap, ap₂, ◌∙◌}
use mathlib.Core.Bool.{Bool, true, false, not}
use mathlib.Core.List.{List}
use Prim.Native.Nat.{ℕ, ◌*◌, ◌≤◌}
use native.Mathlib.Omega.{arith}
use borrow.Author.Tests.{eq-eqb, ne_eqb}
use lib.Dec.{eqb}
use lib.IntN.{ℤ}
use lib.ListN.{length}
use Rattle.inputs.specs.System.{System, system}
use Rattle.kept_sums.specs.Kept.{sum_at}
use Rattle.sweep.specs.Code.{Ready}
use Rattle.half_rows.specs.Rows.{side}
use Rattle.half_rows.specs.State.{state_length, size_of, turn_of, box_of, system_of, sums_place, sums_of, due, with_turn, with_box, with_sums}
use Rattle.half_rows_afresh.specs.Afresh.{nothing, held, held_in}
use Rattle.half_rows_afresh.specs.Claim.{Fresh}
use Rattle.half_rows_afresh.proofs.Kept.{AllKept}
use Rattle.half_rows_afresh.proofs.State.{sums_between, turned_length, turned_size, turned_turn, turned_part, written_length, written_size, written_turn, written_box, written_sums, written_system}

-- the sums K of one side are kept, and the half pass that reads them is due
pub record Loaded (t : List ℤ) (s : System) (b : Bool) (X K : List ℤ) : Type 0 where
  pub long : length t ≡ state_length
  pub some : 1 ≤ s.size
  pub size : size_of t ≡ s.size
  pub turn : turn_of t ≡ due (not b)
  pub system : system_of t s.size ≡ s
  pub box : box_of t s.size ≡ X
  pub sums : sums_of b t s.size ≡ K
  pub ready : Ready s.size s.matrix s.right X
  pub kept : AllKept b s X K

pub data Good (t : List ℤ) : Type 0 where
  blank : length t ≡ state_length → size_of t ≡ 0 → Good t
  full : (s : System) (b : Bool) (X K : List ℤ) → Loaded t s b X K → Good t

pub good_long : {t : List ℤ} → Good t → length t ≡ state_length
good_long (blank l e) = l
good_long (full s b X K w) = w.long

-- ---- what it stands for
pub due_back : (b : Bool) → eqb (due (not b)) (due true) ≡ not b
unfolding due
due_back true = refl
due_back false = refl

pub not_not : (b : Bool) → not (not b) ≡ b
not_not true = refl
not_not false = refl

pub nothing_in : (t : List ℤ) → size_of t ≡ 0 → held_in t ≡ nothing
unfolding held_in
nothing_in t e = rw (eq-eqb (size_of t) 0 e)

pub not_nought : {t : List ℤ} {s : System} {b : Bool} {X K : List ℤ} → Loaded t s b X K → eqb (size_of t) 0 ≡ false
not_nought {t} w = ne_eqb (size_of t) 0 (omega (arith, w.size, w.some))

pub loaded_in : {t : List ℤ} {s : System} {b : Bool} {X K : List ℤ} → Loaded t s b X K → held_in t ≡ held s (not b) X
unfolding held_in
loaded_in {t} {s} {b} w =
    rw (not_nought w, w.size)
    (λ i. held (w.system i) ((ap (λ (n : ℕ). eqb n (due true)) w.turn ∙ due_back b) i) (w.box i))

-- ---- its kept sums
pub good_fresh : {t : List ℤ} → Good t → Fresh t
good_fresh (blank l e) i h = absurd (omega arith)
good_fresh {t} (full s b X K w) i h =
    rw (w.size, w.turn, due_back b, not_not b)
    (ap (λ l. sum_at l i) w.sums ∙ (w.kept.each i (rw w.size at h)).is ∙ sym (ap₂ (λ z Y. side b z Y i) w.system w.box))

-- ---- the state with another box and its sums, and with the other turn
module _ {t : List ℤ} {s : System} {b : Bool} {X K : List ℤ} (w : Loaded t s b X K) {Y F : List ℤ}
    (r : Ready s.size s.matrix s.right Y) (k : AllKept b s Y F) where
  pub written_loaded : Loaded (with_sums (with_box t Y) b F) s b Y F
  written_loaded =
      let few = w.ready.few in
      record {
        long = written_length t s.size w.long few b Y F r.box k.long;
        some = w.some;
        size = written_size t s.size w.long few b Y F r.box k.long ∙ w.size;
        turn = written_turn t s.size w.long few b Y F r.box k.long ∙ w.turn;
        system = written_system t s.size w.long few b Y F r.box k.long ∙ w.system;
        box = written_box t s.size w.long few b Y F r.box k.long;
        sums = written_sums t s.size w.long few b Y F r.box k.long;
        ready = r;
        kept = k;
      }

-- a state that holds the system, with a box, its sums of one side and the turn that reads them
module _ (t : List ℤ) (s : System) (b : Bool) (Y F : List ℤ) (l : length t ≡ state_length) (some : 1 ≤ s.size) (e : size_of t ≡ s.size)
    (f : system_of t s.size ≡ s) (r : Ready s.size s.matrix s.right Y) (k : AllKept b s Y F) where
  abbrev u : List ℤ
  u = with_sums (with_box t Y) b F

  u_long : length u ≡ state_length
  u_long = written_length t s.size l r.few b Y F r.box k.long

  pub turned_loaded : Loaded (with_turn (with_sums (with_box t Y) b F) (not b)) s b Y F
  turned_loaded =
      let n = s.size in
      record {
        long = turned_length u (not b) ∙ u_long;
        some = some;
        size = turned_size u (not b) ∙ written_size t n l r.few b Y F r.box k.long ∙ e;
        turn = turned_turn u (not b) (omega (arith, u_long));
        system =
            ap₂ (system n) (turned_part u (not b) 386 (2 * (n * n)) (omega arith)) (turned_part u (not b) 66 (2 * n) (omega arith))
            ∙ written_system t n l r.few b Y F r.box k.long ∙ f;
        box = turned_part u (not b) 2 (2 * n) (omega arith) ∙ written_box t n l r.few b Y F r.box k.long;
        sums = turned_part u (not b) (sums_place b) (4 * n) (omega (arith, sums_between b)) ∙ written_sums t n l r.few b Y F r.box k.long;
        ready = r;
        kept = k;
      }
