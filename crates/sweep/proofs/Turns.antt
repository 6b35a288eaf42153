-- The components that a pass goes over: upward, or upward and then downward.
use mathlib.Core.Path.{◌≡◌, refl, sym, ap}
use mathlib.Core.Bool.{Bool, true, false, cond}
use mathlib.Core.List.{List, [], ◌∷◌, ◌++◌, append-nil}
use Prim.Native.Nat.{ℕ, zero, suc, ◌+◌, ◌-◌, ◌≤◌, ◌<◌}
use native.Mathlib.Omega.{arith}
use lib.IntN.{ℤ}
use Rattle.outcome.specs.declared.Refusal.TheVariants as refusal
use Rattle.outcome.specs.Run.{refused, and_then}
use Rattle.interval.specs.declared.Interval.{Interval}
use Rattle.interval.specs.Interval.{is_empty}
use Rattle.inputs.specs.Place.{put}
use Rattle.inputs.specs.System.{System}
use Rattle.rows.specs.Sum.{RowSum, once}
use Rattle.std.specs.Prelude.{Some}
use Rattle.sweep.specs.declared.internal.pass.Way.{Way}
use Rattle.sweep.specs.declared.internal.pass.Way.TheVariants.{There, ThereAndBack}
use Rattle.sweep.specs.Pass.{component, along, up, down, sweep, symmetric}
use Rattle.sweep.specs.Code.{pass}

-- ---- components that a box of n has
abbrev pub Below : (n : ℕ) → List ℕ → Type 0
Below n [] = Unit {0}
Below n (i ∷ is) = (i < n) × Below n is

pub up_below : (n d i : ℕ) → i + d ≤ n → Below n (up d i)
unfolding up
up_below n zero i h = tt
up_below n (suc d) i h = (omega arith, up_below n d (i + 1) (omega arith))

pub down_below : (n i : ℕ) → i ≤ n → Below n (down i)
unfolding down
down_below n zero h = tt
down_below n (suc i) h = (omega arith, down_below n i (omega arith))

both_below : (n : ℕ) (is js : List ℕ) → Below n is → Below n js → Below n (is ++ js)
both_below n [] js h k = k
both_below n (i ∷ is) js h k = (h.0, both_below n is js h.1 k)

pub sweep_below : (n : ℕ) → Below n (up n 0)
sweep_below n = up_below n n 0 (omega arith)

pub symmetric_below : (n : ℕ) → Below n (up n 0 ++ down n)
symmetric_below n = both_below n (up n 0) (down n) (sweep_below n) (down_below n n (omega arith))

-- ---- one list after another
along_both : (sum : RowSum) (s : System) (is js : List ℕ) (X : List ℤ) → and_then (along sum s is X) (λ Y. along sum s js Y) ≡ along sum s (is ++ js) X
unfolding along and_then
along_both sum s [] js X = refl
along_both sum s (i ∷ is) js X = go (is_empty v) (along_both sum s is js (put X i v))
  where
    v : Interval
    v = component sum s X i

    go : (t : Bool) → and_then (along sum s is (put X i v)) (λ Y. along sum s js Y) ≡ along sum s (is ++ js) (put X i v)
        → and_then (cond t (refused (refusal.Empty (i + 1))) (along sum s is (put X i v))) (λ Y. along sum s js Y) ≡
        cond t (refused (refusal.Empty (i + 1))) (along sum s (is ++ js) (put X i v))
    go true e = refl
    go false e = e

pub symmetric_along : (sum : RowSum) (s : System) (X : List ℤ) → symmetric sum s X ≡ along sum s (up s.size 0 ++ down s.size) X
unfolding symmetric sweep
symmetric_along sum s X = along_both sum s (up s.size 0) (down s.size) X

-- ---- the components that a pass still has to go over: i and on, and then back
pub up_more : {n i : ℕ} → i < n → up (n - i) i ≡ i ∷ up (n - (i + 1)) (i + 1)
unfolding up
up_more {n} {i} h = let e : n - i ≡ suc (n - (i + 1)) = omega arith in rw e

pub up_end : {n i : ℕ} → n ≤ i → up (n - i) i ≡ []
unfolding up
up_end {n} {i} h = let e : n - i ≡ 0 = omega arith in rw e

pub down_more : (i : ℕ) → 0 < i → down i ≡ (i - 1) ∷ down (i - 1)
unfolding down
down_more zero h = absurd (omega arith)
down_more (suc i) h = let e : suc i - 1 ≡ i = omega arith in rw e

pub down_end : {i : ℕ} → i ≤ 0 → down i ≡ []
unfolding down
down_end {i} h = let e : i ≡ 0 = omega arith in rw e

abbrev pub back : Way → (n : ℕ) → List ℕ
back There n = []
back ThereAndBack n = down n

pub pass_along : (w : Way) (s : System) (X : List ℤ) → pass (Some w) s X ≡ along once s (up s.size 0 ++ back w s.size) X
unfolding sweep
pass_along There s X = ap (λ is. along once s is X) (sym (append-nil (up s.size 0)))
pass_along ThereAndBack s X = symmetric_along once s X
