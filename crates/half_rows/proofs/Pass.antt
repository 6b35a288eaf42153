-- One turn of a half pass, and what stays true of the box and the sums.
use mathlib.Core.Path.{◌≡◌, refl, sym, subst, ◌∙◌}
use mathlib.Core.Bool.{Bool, true, false, cond, ◌&&◌}
use mathlib.Core.List.{List, [], ◌∷◌}
use Prim.Native.Nat.{ℕ, suc, ◌+◌, ◌-◌, ◌*◌, ◌≤◌, ◌<◌}
use native.Mathlib.Omega.{arith}
use native.Mathlib.Nat.{sub-zero}
use native.Mathlib.Decide.{ℕ_discrete}
use lib.IntN.{ℤ, pos}
use lib.ListN.{length}
use lib.Signed.{◌≤ℤ◌}
use Rattle.integer.proofs.Order.{trans}
use Rattle.integer.proofs.Extremes.{le_max_right}
use Rattle.std.specs.Prelude.{Option, Some, None, Result, is_ok, Ok, Err}
use Rattle.std.specs.Option.{ok_or}
use Rattle.outcome.specs.declared.Refusal.{Refusal}
use Rattle.outcome.specs.declared.Refusal.TheVariants as refusal
use Rattle.outcome.specs.Run.{Run, refused, done}
use Rattle.interval.specs.declared.Interval.{Interval}
use Rattle.interval.specs.Interval.{acceptable, intersection, is_empty}
use Rattle.inputs.specs.Place.{at, put}
use Rattle.inputs.specs.Tests.{Test, proper}
use Rattle.inputs.specs.System.{System, system}
use Rattle.inputs.proofs.Place.{length_put, sound_put, at_put_same, at_put_other}
use Rattle.wide_sum.specs.declared.WideInterval.{WideInterval}
use Rattle.wide_sum.specs.Wide.{held_both}
use Rattle.wide_sum.specs.Code.{NearBoth}
use Rattle.rows.specs.Word.{NoneBelow}
use Rattle.kept_sums.specs.Kept.{sum_at, put_sum, sum_ready}
use Rattle.kept_sums.proofs.Kept.{length_put_sum}
use Rattle.sweep.specs.Pass.{up, down}
use Rattle.sweep.proofs.Pass.{intersection_accepted}
use Rattle.half_rows.specs.Rows.{Worked, worked, of_state, beside, half_row, side, joined, components, half_along}
use Rattle.half_rows.specs.Code.{Boxed, Stepped, turn}

-- ---- the components from turn k on
unfoldable pub rest : (back : Bool) → (n k : ℕ) → List ℕ
rest back n k = cond back (down (n - k)) (up (n - k) k)

rest_start : (back : Bool) (n : ℕ) → components back n ≡ rest back n 0
unfolding rest components
rest_start back n = rw sub-zero

rest_end : (back : Bool) (n k : ℕ) → n ≤ k → rest back n k ≡ []
unfolding rest up down
rest_end true n k h = let e : n - k ≡ 0 = omega arith in rw e
rest_end false n k h = let e : n - k ≡ 0 = omega arith in rw e

rest_go : (back : Bool) (n k : ℕ) → k < n → rest back n k ≡ turn back n k ∷ rest back n (k + 1)
unfolding rest up down turn
rest_go true n k h = let e : n - k ≡ suc (n - (k + 1)) = omega arith in rw e
rest_go false n k h = let e : n - k ≡ suc (n - (k + 1)) = omega arith in rw e

pub turn_below : (back : Bool) (n k : ℕ) → k < n → turn back n k < n
unfolding turn
turn_below true n k h = omega arith
turn_below false n k h = h

-- ---- numbers that no operation left
not_of_state : {A : Type 0} (t : Test) (b : Bool) (r : Run A) → (is_ok t && b) ≡ false → of_state t (cond b r (refused refusal.NotDue)) ≡ refused refusal.NotDue
unfolding of_state
not_of_state (Ok _) b r e = rw e
not_of_state (Err o) b r e = refl

-- the refusal that stands for no answer
pub not_due : {A : Type 0} (r : Option A) {o : Refusal} → r ≡ None → ◌≡◌ {A = Result A Refusal} (Err o) (ok_or r refusal.NotDue) → o ≡ refusal.NotDue
not_due r e f = let g = rw e at f in cc

-- ---- a half pass before turn k
pub record Halfway (n : ℕ) (back : Bool) (m r K x₀ F₀ : List ℤ) (k : ℕ) (x F : List ℤ) : Type 0 where
  pub boxed : Boxed n x
  pub sums : length F ≡ 4 * n
  pub rest : half_along back (system n m r) K (components back n) x₀ F₀ ≡ half_along back (system n m r) K (rest back n k) x F

pub halfway_start : {n : ℕ} (back : Bool) (m : List ℤ) {r K x F : List ℤ} → Boxed n x → length F ≡ 4 * n → Halfway n back m r K x F 0 x F
halfway_start {n} back m {r} {K} {x} {F} w l = record { boxed = w; sums = l; rest = λ j. half_along back (system n m r) K (rest_start back n j) x F }

module _ {n : ℕ} {back : Bool} {m r K x₀ F₀ : List ℤ} {k : ℕ} {x F : List ℤ} (w : Halfway n back m r K x₀ F₀ k x F) where
  abbrev sys : System
  sys = system n m r

  pub halfway_end : n ≤ k → done (worked x F) ≡ half_along back sys K (components back n) x₀ F₀
  unfolding half_along
  halfway_end h = sym (w.rest ∙ rw (rest_end back n k h))

  module _ {i : ℕ} (h : k < n) (a : i ≡ turn back n k) where
    pub below : i < n
    below = rw a (turn_below back n k h)

    abbrev Answer : Option (Interval × WideInterval) → Type 0
    Answer s = Stepped (proper (half_row back sys i) (beside back n i + 1) 0 0) (sum_ready K i) (joined back sys x i (sum_at K i)) (side back sys x i) s

    -- what comes from turn k on
    abbrev on : Run Worked
    on =
        of_state (proper (half_row back sys i) (beside back n i + 1) 0 0)
        (cond (sum_ready K i)
        (cond (is_empty (joined back sys x i (sum_at K i))) (refused (refusal.Empty (i + 1)))
        (half_along back sys K (rest back n (k + 1)) (put x i (joined back sys x i (sum_at K i))) (put_sum F i (side back sys x i))))
        (refused refusal.NotDue))

    goes : half_along back sys K (components back n) x₀ F₀ ≡ on
    unfolding half_along
    goes = w.rest ∙ rw (rest_go back n k h, ← a)

    pub halfway_ill : {s : Option (Interval × WideInterval)} → s ≡ None → Answer s → refused refusal.NotDue ≡ half_along back sys K (components back n) x₀ F₀
    halfway_ill e f =
        sym (goes ∙ not_of_state (proper (half_row back sys i) (beside back n i + 1) 0 0) (sum_ready K i) _ (subst (λ (s : Option (Interval × WideInterval)). Answer s) e f))

    module _ {s : Option (Interval × WideInterval)} {v : Interval} {u : WideInterval} (e : s ≡ Some (v, u)) (f : Answer s) where
      answer : Answer (Some (v, u))
      answer = subst (λ (s : Option (Interval × WideInterval)). Answer s) e f

      pub next_near : NearBoth 32 u
      next_near = answer.4

      -- no component falls below 0
      pub halfway_above : {y : List ℤ} → NoneBelow x → y ≡ put x i v → NoneBelow y
      unfolding joined intersection
      halfway_above o p = rw p (record { each = λ j. go j (ℕ_discrete j i) })
        where
          go : (j : ℕ) → Dec (j ≡ i) → pos 0 ≤ℤ (at (put x i v) j).lo
          go j (yes q) = rw (q, at_put_same x i v (omega (arith, w.boxed.long, below))) (rw answer.2 (trans (o.each i) (le_max_right _ (at x i).lo)))
          go j (no q) = rw (at_put_other x i j v q) (o.each j)

      pub halfway_stop : is_empty v ≡ true → refused (refusal.Empty (i + 1)) ≡ half_along back sys K (components back n) x₀ F₀
      unfolding of_state
      halfway_stop g = sym (goes ∙ rw (answer.0, answer.1, ← answer.2, g))

      on_is : is_empty v ≡ false → on ≡ half_along back sys K (rest back n (k + 1)) (put x i v) (put_sum F i (held_both u))
      unfolding of_state
      on_is g = rw (answer.0, answer.1, ← answer.2, g, answer.3)

      pub halfway_go : {y G : List ℤ} → is_empty v ≡ false → y ≡ put x i v → G ≡ put_sum F i (held_both u) → Halfway n back m r K x₀ F₀ (k + 1) y G
      unfolding joined
      halfway_go g p q =
          let z = w.boxed in
          let b : acceptable v ≡ true = rw answer.2 (intersection_accepted _ (at x i) (z.sound.each i) (rw answer.2 at g)) in
          rw (p, q)
          (record {
            boxed = record { long = length_put x i v ∙ z.long; sound = sound_put x i v z.sound (omega (arith, z.long, below)) b };
            sums = length_put_sum F i (held_both u) ∙ w.sums;
            rest = goes ∙ on_is g;
          })
