-- The calls, by their ways out.
use mathlib.Core.Path.{◌≡◌, refl, ◌∙◌}
use mathlib.Core.Logic.{◌≢◌, ◌⊎◌, inl, inr}
use mathlib.Core.Bool.{Bool, true, false}
use mathlib.Core.List.{List}
use Prim.Native.Nat.{ℕ, ◌-◌, ◌≤◌, ◌<◌}
use native.Mathlib.Omega.{arith}
use borrow.Author.Tests.{eq-eqb, ne_eqb, le-leb, lt-leb}
use lib.Dec.{eqb}
use lib.IntN.{ℤ}
use lib.ListN.{length}
use Rattle.std.specs.Prelude.{Result, Ok, Err}
use Rattle.outcome.specs.declared.Refusal.{Refusal}
use Rattle.outcome.specs.declared.Refusal.TheVariants as refusal
use Rattle.outcome.specs.Run.{answered, ended}
use Rattle.interval.specs.declared.Interval.{Interval}
use Rattle.interval.specs.Interval.{acceptable}
use Rattle.inputs.specs.Tests.{tested}
use Rattle.inputs.specs.System.{System}
use Rattle.inputs.specs.Code.{Ended}
use Rattle.sweep.specs.Call.{tests}
use Rattle.half_rows.specs.State.{state_length, size_of, turn_of, due}
use Rattle.half_rows.specs.Operations.{load, half_pass, narrowing, loaded, load_run, pass_run, narrowed_of, narrow_run, run, operate}
use Rattle.half_rows.specs.Code.{pass_end}

-- ---- load
module _ (s : System) (X t : List ℤ) where
  pub load_short : length t ≢ state_length → answered (Err refusal.NotDue) t ≡ operate (load s X) t
  unfolding operate run load_run ended
  load_short h = rw (ne_eqb (length t) state_length h)

  module _ (h : length t ≡ state_length) where
    pub load_refused : {o : Refusal} → tests s 1 X ≡ Err o → answered (Err o) t ≡ operate (load s X) t
    unfolding operate run load_run ended tested
    load_refused e = rw (eq-eqb (length t) state_length h, e)

    pub load_done : {u : List ℤ} → tests s 1 X ≡ Ok tt → u ≡ loaded s X → answered (Ok tt) u ≡ operate (load s X) t
    unfolding operate run load_run ended tested
    load_done e f = rw (eq-eqb (length t) state_length h, e, f)

-- ---- the half pass that is due
pub due_some : (back : Bool) → eqb (due back) 0 ≡ false
unfolding due
due_some true = refl
due_some false = refl

due_back : (back : Bool) → eqb (due back) (due true) ≡ back
unfolding due
due_back true = refl
due_back false = refl

-- ---- a state of another length
pub size_short : (t : List ℤ) → length t ≢ state_length → size_of t ≡ 0
unfolding size_of
size_short t h = rw (ne_eqb (length t) state_length h)

-- ---- a half pass
module _ (back : Bool) (t : List ℤ) where
  pub pass_none : size_of t ≡ 0 → answered (Err refusal.NotDue) t ≡ operate (half_pass back) t
  unfolding operate run pass_run ended
  pass_none e = rw e

  module _ {n : ℕ} (e : size_of t ≡ n) (h : 0 < n) where
    pub pass_late : turn_of t ≢ due back → answered (Err refusal.NotDue) t ≡ operate (half_pass back) t
    unfolding operate run pass_run ended
    pass_late f = rw (e, ne_eqb n 0 (omega arith), ne_eqb (turn_of t) (due back) f)

    pub pass_goes : {o : Result (Unit {0}) Refusal} {u : List ℤ} → turn_of t ≡ due back → Ended (pass_end back t n) o t u → answered o u ≡ operate (half_pass back) t
    unfolding operate run pass_run pass_end
    pass_goes f g = g.is ∙ rw (e, ne_eqb n 0 (omega arith), eq-eqb (turn_of t) (due back) f)

-- ---- a narrowing
module _ (vat : ℕ) (w : Interval) (t : List ℤ) where
  pub narrow_none : size_of t ≡ 0 → answered (Err refusal.NotDue) t ≡ operate (narrowing vat w) t
  unfolding operate run narrow_run ended
  narrow_none e = rw e

  module _ {n : ℕ} (e : size_of t ≡ n) (h : 0 < n) where
    pub narrow_unturned : turn_of t ≡ 0 → answered (Err refusal.NotDue) t ≡ operate (narrowing vat w) t
    unfolding operate run narrow_run ended
    narrow_unturned f = rw (e, ne_eqb n 0 (omega arith), f)

    module _ (back : Bool) (f : turn_of t ≡ due back) where
      pub narrow_out : (vat < 1) ⊎ ((1 ≤ vat) × (n < vat)) → answered (Err refusal.NoComponent) t ≡ operate (narrowing vat w) t
      unfolding operate run narrow_run ended
      narrow_out (inl l) = rw (e, ne_eqb n 0 (omega arith), f, due_some back, lt-leb 1 vat l)
      narrow_out (inr (l, m)) = rw (e, ne_eqb n 0 (omega arith), f, due_some back, le-leb 1 vat l, lt-leb vat n m)

      -- v is the weighed interval, as it is read
      module _ (l : 1 ≤ vat) (m : vat ≤ n) {v : Interval} (i : v ≡ w) where
        pub narrow_bad : acceptable v ≡ false → answered (Err (refusal.Ends 0)) t ≡ operate (narrowing vat w) t
        unfolding operate run narrow_run ended
        narrow_bad g = rw (← i, e, ne_eqb n 0 (omega arith), f, due_some back, le-leb 1 vat l, le-leb vat n m, g)

        pub narrow_goes : {o : Result (Unit {0}) Refusal} {u : List ℤ} → acceptable v ≡ true → Ended (narrowed_of back t n (vat - 1) v) o t u → answered o u ≡ operate (narrowing vat w) t
        unfolding operate run narrow_run
        narrow_goes g q = q.is ∙ rw (← i, e, ne_eqb n 0 (omega arith), f, due_some back, due_back back, le-leb 1 vat l, le-leb vat n m, g)
