-- What an operation leaves, beside what it would leave if nothing were kept; load, from which every such state comes.
use mathlib.Core.Path.{◌≡◌, refl, sym, ap}
use mathlib.Core.Bool.{Bool, true, false, not}
use mathlib.Core.List.{List}
use native.Mathlib.Omega.{arith}
use borrow.Author.Tests.{eq-eqb}
use lib.IntN.{ℤ, pos}
use lib.ListN.{length, length-replicate, get_or-replicate}
use Rattle.std.specs.Prelude.{Ok, Err}
use Rattle.outcome.specs.Run.{Run, refused, done}
use Rattle.inputs.specs.Tests.{Test, tested}
use Rattle.inputs.specs.System.{System}
use Rattle.sweep.specs.Call.{tests}
use Rattle.sweep.proofs.Tests.{fits, ready}
use Rattle.half_rows.specs.Rows.{sides}
use Rattle.half_rows.specs.State.{state_length, empty, sums_of, with_turn, with_box, with_sums, with_system}
use Rattle.half_rows.specs.Operations.{loaded_over, loaded, load_run}
use Rattle.half_rows_afresh.specs.Afresh.{Held, held, held_in}
use Rattle.half_rows_afresh.proofs.Renewed.{sides_kept}
use Rattle.half_rows_afresh.proofs.State.{size_none, length_sums, system_length, system_size, system_system}
use Rattle.half_rows_afresh.proofs.Loaded.{Loaded, Good, blank, full, loaded_in, turned_loaded}

abbrev pub Does : Run (List ℤ) → Run Held → Type 0
Does (refused o) r = r ≡ refused o
Does (done u) r = (r ≡ done (held_in u)) × Good u

pub does_loaded : {t : List ℤ} {s : System} {b : Bool} {X K : List ℤ} → Loaded t s b X K → Does (done t) (done (held s (not b) X))
does_loaded {t} {s} {b} {X} {K} w = (ap done (sym (loaded_in w)), full s b X K w)

-- ---- the empty state
empty_long : length empty ≡ state_length
empty_long = length-replicate state_length (pos 0)

pub empty_good : Good empty
empty_good = blank empty_long (size_none empty empty_long (get_or-replicate state_length 0 (pos 0) (pos 0) (omega arith)))

-- ---- load
module _ (s : System) (X : List ℤ) (e : tests s 1 X ≡ Ok tt) where
  load_over : (t : List ℤ) → length t ≡ state_length
      → Loaded (with_turn (with_sums (with_box (with_system t s) X) true (sides true s X s.size 0 (sums_of true t s.size))) false) s true X
      (sides true s X s.size 0 (sums_of true t s.size))
  load_over t l =
      let w = ready s 1 X e in
      let some = (fits s 1 X e).some in
      turned_loaded (with_system t s) s true X _ (system_length t s l w.few w.matrix w.right) some
      (system_size t s l w.few w.matrix w.right some) (system_system t s l w.few w.matrix w.right) w
      (sides_kept true s X w.few w.matrix_sound w.box_sound _ (length_sums true t s.size l w.few))

  load_loaded : Loaded (loaded s X) s true X (sides true s X s.size 0 (sums_of true empty s.size))
  unfolding loaded_over
  load_loaded = load_over empty empty_long

pub load_does : (s : System) (X t : List ℤ) → length t ≡ state_length → Does (load_run s X t) (tested (tests s 1 X) (done (held s false X)))
unfolding load_run tested
load_does s X t l = rw (eq-eqb (length t) state_length l) (go (tests s 1 X) refl)
  where
    go : (r : Test) → tests s 1 X ≡ r → Does (tested r (done (loaded s X))) (tested r (done (held s false X)))
    go (Ok _) e = does_loaded (load_loaded s X e)
    go (Err o) e = refl
