-- One operation, if nothing were kept: no bound is wider, and a solution in the box stays in it.
use mathlib.Core.Path.{◌≡◌, refl}
use mathlib.Core.Logic.{◌≢◌}
use mathlib.Core.Bool.{Bool, true, false, not, cond, ◌&&◌}
use mathlib.Core.List.{List}
use Prim.Native.Nat.{ℕ, ◌+◌, ◌-◌, ◌*◌, ◌<◌}
use native.Mathlib.Omega.{arith}
use native.Mathlib.Decide.{ℕ_discrete}
use borrow.Author.Tests.{leb-true}
use lib.Dec.{leb}
use lib.IntN.{ℤ}
use lib.ListN.{length}
use Rattle.std.specs.Prelude.{Err}
use Rattle.outcome.specs.declared.Refusal.TheVariants as refusal
use Rattle.outcome.specs.Table.{number_and_place}
use Rattle.outcome.specs.Run.{Run, refused, done, and_then}
use Rattle.interval.specs.declared.Interval.{Interval}
use Rattle.interval.specs.Interval.{acceptable, intersection, is_empty}
use Rattle.interval.proofs.Range.{and_both}
use Rattle.fraction.specs.Fraction.{Fraction, Inside}
use Rattle.fraction.proofs.Inside.{intersection_inside}
use Rattle.fraction.proofs.Contains.{intersection_narrows}
use Rattle.inputs.specs.Place.{at, put}
use Rattle.inputs.specs.System.{System}
use Rattle.inputs.proofs.Place.{length_put, at_put_same, at_put_other}
use Rattle.rows.specs.Sum.{once}
use Rattle.rows.proofs.Encloses.{once_encloses}
use Rattle.sweep.specs.Pass.{along}
use Rattle.sweep.proofs.Pass.{put_narrows}
use Rattle.sweep.proofs.Turns.{Below, sweep_below, down_below}
use Rattle.accuracy.specs.Solution.{Solution, InBox}
use Rattle.accuracy.specs.Claim.{Narrowed}
use Rattle.accuracy.proofs.Follows.{follows_refl, OnPass}
use Rattle.accuracy.proofs.Sweep.{held_not_empty, along_follows}
use Rattle.half_rows.specs.Rows.{components}
use Rattle.half_rows.specs.Operations.{Operation, load, half_pass, narrowing}
use Rattle.half_rows_afresh.specs.Afresh.{Held, held, afresh_pass, afresh_narrowing, afresh}
use Rattle.half_rows_afresh.specs.Claim.{Weighed, Tightens}

module _ (s : System) (o : Operation) (X : List ℤ) where
  pub record Next (h : Held) : Type 0 where
    pub back : Bool
    pub box : List ℤ
    pub is : h ≡ held s back box
    pub as_long : length box ≡ length X
    pub narrowed : Narrowed s.size X box
    pub keeps : (x : ℕ → Fraction) → Solution s x → Weighed x o → InBox s.size X x → InBox s.size box x

  -- where it is refused, it does not say 7 of a box that holds a solution
  abbrev pub OnStep : Run Held → Type 0
  OnStep (refused p) = (x : ℕ → Fraction) → Solution s x → Weighed x o → InBox s.size X x → (number_and_place (Err p)).number ≢ 7
  OnStep (done h) = Next h

-- ---- a half pass
components_below : (back : Bool) (n : ℕ) → Below n (components back n)
unfolding components
components_below true n = down_below n n (omega arith)
components_below false n = sweep_below n

pass_step : (s : System) (back b : Bool) (X : List ℤ) → length X ≡ 2 * s.size → OnStep s (half_pass back) X (afresh_pass back (held s b X))
unfolding afresh_pass and_then
pass_step s back b X l = go (cond b back (not back))
  where
    ended : (r : Run (List ℤ)) → OnPass s X r → OnStep s (half_pass back) X (and_then r (λ Y. done (held s (not back) Y)))
    ended (refused p) f = λ x sol w k e. f x sol k
    ended (done Y) f = record { back = not back; box = Y; is = refl; as_long = f.as_long; narrowed = f.narrowed; keeps = λ x sol w k. f.keeps x sol k }

    go : (c : Bool) → OnStep s (half_pass back) X (cond c (and_then (along once s (components back s.size) X) (λ Y. done (held s (not back) Y))) (refused refusal.NotDue))
    go true = ended (along once s (components back s.size) X) (along_follows once once_encloses s (components back s.size) (components_below back s.size) l (follows_refl s X))
    go false = λ x sol w k. omega arith

-- ---- a narrowing
in_box_put : (n : ℕ) (X : List ℤ) (x : ℕ → Fraction) (v : ℕ) (w : Interval) → 2 * v + 1 < length X → Inside w (x v) → InBox n X x → InBox n (put X v w) x
in_box_put n X x v w room h k = record { each = λ j g. go j g (ℕ_discrete j v) }
  where
    go : (j : ℕ) → j < n → Dec (j ≡ v) → Inside (at (put X v w) j) (x j)
    go j g (yes e) = rw (e, at_put_same X v w room) h
    go j g (no e) = rw (at_put_other X v j w e) (k.each j g)

narrowing_step : (s : System) (vat : ℕ) (w : Interval) (b : Bool) (X : List ℤ) → length X ≡ 2 * s.size
    → OnStep s (narrowing vat w) X (afresh_narrowing vat w (held s b X))
unfolding afresh_narrowing
narrowing_step s vat w b X l = go (leb 1 vat && leb vat s.size) refl
  where
    o : Operation
    o = narrowing vat w

    new : Interval
    new = intersection w (at X (vat - 1))

    inside : vat - 1 < s.size → (x : ℕ → Fraction) → Weighed x o → InBox s.size X x → Inside new (x (vat - 1))
    inside h x i k = intersection_inside i (k.each (vat - 1) h)

    emptied : (e : Bool) → is_empty new ≡ e → vat - 1 < s.size → OnStep s o X (cond e (refused (refusal.Empty vat)) (done (held s b (put X (vat - 1) new))))
    emptied true e h = λ x sol i k f. held_not_empty e (inside h x i k)
    emptied false e h =
        let room : 2 * (vat - 1) + 1 < length X = omega arith in
        record {
          back = b;
          box = put X (vat - 1) new;
          is = refl;
          as_long = length_put X (vat - 1) new;
          narrowed = record { each = λ j g. put_narrows X (vat - 1) new room (intersection_narrows w (at X (vat - 1))) j };
          keeps = λ x sol i k. in_box_put s.size X x (vat - 1) new room (inside h x i k) k;
        }

    accepted : (a : Bool) → vat - 1 < s.size
        → OnStep s o X (cond a (cond (is_empty new) (refused (refusal.Empty vat)) (done (held s b (put X (vat - 1) new)))) (refused (refusal.Ends 0)))
    accepted true h = emptied (is_empty new) refl h
    accepted false h = λ x sol i k. omega arith

    go : (c : Bool) → (leb 1 vat && leb vat s.size) ≡ c
        → OnStep s o X (cond c (cond (acceptable w) (cond (is_empty new) (refused (refusal.Empty vat)) (done (held s b (put X (vat - 1) new)))) (refused (refusal.Ends 0)))
        (refused refusal.NoComponent))
    go true e =
        let p = and_both (leb 1 vat) (leb vat s.size) e in
        let f = leb-true 1 vat p.0 in
        let g = leb-true vat s.size p.1 in
        accepted (acceptable w) (omega arith)
    go false e = λ x sol i k. omega arith

pub afresh_step : (s : System) (o : Operation) (b : Bool) (X : List ℤ) → Tightens o → length X ≡ 2 * s.size → OnStep s o X (afresh o (held s b X))
unfolding afresh
afresh_step s (load s' X') b X h l = absurd h
afresh_step s (half_pass back) b X h l = pass_step s back b X l
afresh_step s (narrowing vat w) b X h l = narrowing_step s vat w b X l
