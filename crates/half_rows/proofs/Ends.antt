-- The operations on a state, from what the code reads and leaves.
use mathlib.Core.Path.{◌≡◌, refl, ◌∙◌}
use mathlib.Core.Bool.{Bool, true, false, not}
use mathlib.Core.List.{List}
use Prim.Native.Nat.{ℕ, ◌+◌, ◌-◌, ◌*◌}
use native.Mathlib.Omega.{arith}
use lib.IntN.{ℤ}
use lib.ListN.{length, take, drop}
use Rattle.outcome.specs.declared.Refusal.{Refusal}
use Rattle.outcome.specs.declared.Refusal.TheVariants as refusal
use Rattle.std.specs.Prelude.{Result, Ok, Err, is_err}
use Rattle.outcome.specs.Run.{Run, refused, and_then, run_of, ended}
use Rattle.interval.specs.declared.Interval.{Interval}
use Rattle.interval.specs.Interval.{acceptable, intersection, is_empty}
use Rattle.inputs.specs.Place.{at, put}
use Rattle.inputs.specs.Tests.{Test, both, proper}
use Rattle.inputs.specs.System.{system}
use Rattle.inputs.specs.Code.{Sound, Ended}
use Rattle.inputs.proofs.Place.{proper_sound}
use Rattle.half_rows.specs.Rows.{first, beside, Worked, worked, of_state, components, half_along, renew}
use Rattle.half_rows.specs.State.{box_of, system_of, sums_place, sums_of, with_turn, with_box, with_sums}
use Rattle.half_rows.specs.Operations.{pass_of, passed, narrowed_to, narrowed_of}
use Rattle.half_rows.specs.Code.{pass_end}

-- ---- the half pass on copies, from the tests of box and right side
err_is : (t : Test) → is_err t ≡ true → (o : Refusal) × (t ≡ Err o)
err_is (Ok _) e = cc
err_is (Err o) e = (o, refl)

ok_is : (t : Test) → is_err t ≡ false → t ≡ Ok tt
ok_is (Ok _) e = refl
ok_is (Err o) e = cc

pub not_err_sound : (X : List ℤ) (n : ℕ) {p : Test} → length X ≡ 2 * n → p ≡ proper X n 0 0 → is_err p ≡ false → Sound X
not_err_sound X n l u e = proper_sound X n 0 l (ok_is _ (rw u at e))

module _ (back : Bool) (t : List ℤ) (n : ℕ) {X : List ℤ} (x : X ≡ box_of t n) {p : Test} (u : p ≡ proper X n 0 0) where
  pub box_ill : is_err p ≡ true → refused refusal.NotDue ≡ pass_of back t n
  unfolding pass_of of_state both
  box_ill e = let f = err_is _ (rw (u, x) at e) in rw f.1

  module _ (e : is_err p ≡ false) {q : Test} (v : q ≡ proper (take (66 + 2 * n - 66) (drop 66 t)) n 0 0) where
    right : is_err (proper (take (2 * n) (drop 66 t)) n 0 0) ≡ is_err q
    right = let a : 66 + 2 * n - 66 ≡ 2 * n = omega arith in rw (v, a)

    pub right_ill : is_err q ≡ true → refused refusal.NotDue ≡ pass_of back t n
    unfolding pass_of of_state both
    right_ill f = let g = err_is _ (right ∙ f) in rw (ok_is _ (rw (u, x) at e), g.1)

    pub pass_is : {k : ℕ} {F : List ℤ} {h : Run Worked} → is_err q ≡ false → F ≡ sums_of back t n → k ≡ sums_place (not back)
        → h ≡ half_along back (system n (take (386 + 2 * (n * n) - 386) (drop 386 t)) (take (66 + 2 * n - 66) (drop 66 t))) (take (k + 4 * n - k) (drop k t)) (components back n) X F
        → h ≡ pass_of back t n
    unfolding pass_of of_state both
    pass_is {k} f g l h =
        let a : 386 + 2 * (n * n) - 386 ≡ 2 * (n * n) = omega arith in
        let b : 66 + 2 * n - 66 ≡ 2 * n = omega arith in
        let c : k + 4 * n - k ≡ 4 * n = omega arith in
        h ∙ rw (a, b, c, x, g, l, ok_is _ (rw (u, x) at e), ok_is _ (right ∙ f))

-- ---- how it ends, from what the half pass on copies answered
module _ (back : Bool) (t : List ℤ) (n : ℕ) {r : Result (Unit {0}) Refusal} (X F : List ℤ) (e : run_of r (worked X F) ≡ pass_of back t n) where
  pub pass_stops : {o : Refusal} → r ≡ Err o → Ended (pass_end back t n) (Err o) t t
  unfolding pass_end and_then ended
  pass_stops f = record { is = rw (← e, f) }

  pub pass_ends : {u : List ℤ} → r ≡ Ok tt → u ≡ with_turn (with_sums (with_box t X) back F) (not back) → Ended (pass_end back t n) (Ok tt) t u
  unfolding pass_end passed and_then ended
  pass_ends f g = record { is = rw (← e, f, g) }

-- ---- a narrowing: the sums on a copy
module _ (back : Bool) (t : List ℤ) (n v : ℕ) (new : Interval) where
  abbrev pub renewal : Run (List ℤ)
  renewal = renew (system_of t n) v (at (box_of t n) v) new (beside back n v) (first back v) (sums_of (not back) t n)

  pub renewal_is : (i d : ℕ) {K X : List ℤ} {old : Interval} (r : Run (List ℤ)) → X ≡ box_of t n → K ≡ sums_of (not back) t n → old ≡ at X v → i ≡ first back v → d ≡ beside back n v
      → ((f : List ℤ) → r ≡ renew (system n (take (386 + 2 * (n * n) - 386) (drop 386 t)) f) v old new d i K) → r ≡ renewal
  renewal_is i d r x k o e f h =
      let a : 386 + 2 * (n * n) - 386 ≡ 2 * (n * n) = omega arith in
      h (system_of t n).right ∙ rw (a, o, x, k, e, f)

  module _ {r : Result (Unit {0}) Refusal} (L : List ℤ) (h : run_of r L ≡ renewal) where
    pub narrow_stops : {o : Refusal} → r ≡ Err o → Ended (narrowed_to back t n v new) (Err o) t t
    unfolding narrowed_to and_then ended
    narrow_stops e = record { is = rw (← h, e) }

    pub narrow_ends : {X Y u : List ℤ} → r ≡ Ok tt → X ≡ box_of t n → Y ≡ put X v new → u ≡ with_sums (with_box t Y) (not back) L → Ended (narrowed_to back t n v new) (Ok tt) t u
    unfolding narrowed_to and_then ended
    narrow_ends e x y f = record { is = rw (f, y, x, ← h, e) }

-- ---- and the whole of it, from the component as it was and as it becomes
module _ (back : Bool) (t : List ℤ) (n v : ℕ) (w : Interval) {old : Interval} (e : old ≡ at (box_of t n) v) where
  pub narrow_ill : acceptable old ≡ false → Ended (narrowed_of back t n v w) (Err refusal.NotDue) t t
  unfolding narrowed_of ended
  narrow_ill f = record { is = rw (← e, f) }

  module _ (f : acceptable old ≡ true) {new : Interval} (g : new ≡ intersection w old) where
    pub narrow_empty : is_empty new ≡ true → Ended (narrowed_of back t n v w) (Err (refusal.Empty (v + 1))) t t
    unfolding narrowed_of ended
    narrow_empty h = record { is = rw (← e, f, ← g, h) }

    pub narrow_goes : {o : Result (Unit {0}) Refusal} {u : List ℤ} → is_empty new ≡ false → Ended (narrowed_to back t n v new) o t u → Ended (narrowed_of back t n v w) o t u
    unfolding narrowed_of
    narrow_goes h d = record { is = d.is ∙ rw (← e, f, ← g, h) }
