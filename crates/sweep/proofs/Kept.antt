-- What the number of a call tells: with 0 or 9 the box that it leaves is as long as the one that was lent, and of intervals; 7 comes from no test.
use mathlib.Core.Path.{◌≡◌, refl}
use mathlib.Core.Bool.{Bool, true, false, cond}
use mathlib.Core.Logic.{◌⊎◌, inl, inr}
use mathlib.Core.List.{List, [], ◌∷◌, ◌++◌}
use Prim.Native.Nat.{ℕ, zero, suc, ◌+◌, ◌≤◌}
use native.Mathlib.Omega.{arith}
use borrow.Author.Tests.{ne_eqb}
use lib.Dec.{eqb}
use lib.IntN.{ℤ}
use Rattle.outcome.specs.declared.Refusal.{Refusal}
use Rattle.outcome.specs.declared.Refusal.TheVariants as refusal
use Rattle.outcome.specs.Table.{number_and_place}
use Rattle.outcome.specs.Run.{Run, refused, done, ended}
use Rattle.interval.specs.declared.Interval.{Interval}
use Rattle.interval.specs.Interval.{is_empty}
use Rattle.inputs.specs.Tests.{Test}
use Rattle.std.specs.Prelude.{Ok, Err}
use Rattle.inputs.specs.Place.{put}
use Rattle.inputs.specs.Tests.{tested}
use Rattle.inputs.specs.System.{System, system}
use Rattle.inputs.proofs.Early.{Early, parts, early_sizes, early_all, early_number}
use Rattle.rows.specs.Sum.{RowSum, once}
use Rattle.sweep.specs.Pass.{component, along, up, down, sweep, symmetric, differ}
use Rattle.sweep.specs.Call.{Log, settled, after, sweeps, last, concluded, allowance, tests}
use Rattle.sweep.specs.Calls.{Call, sweep_call, symmetric_call, run_over, run_by, returned_by, call}
use Rattle.sweep.specs.Code.{Ready}
use Rattle.sweep.proofs.Tests.{ready, fits}
use Rattle.sweep.proofs.Turns.{Below, sweep_below, symmetric_below, symmetric_along}
use Rattle.sweep.proofs.Pass.{ready_put}

module _ (n : ℕ) (m r : List ℤ) where
  abbrev OnPass : Run (List ℤ) → Type 0
  OnPass (refused o) = Unit {0}
  OnPass (done y) = Ready n m r y

  along_keeps : (sum : RowSum) (is : List ℕ) (x : List ℤ) → Below n is → Ready n m r x → OnPass (along sum (system n m r) is x)
  unfolding along
  along_keeps sum [] x b w = w
  along_keeps sum (i ∷ is) x b w = go (is_empty v) refl (along_keeps sum is (put x i v) b.1)
    where
      v : Interval
      v = component sum (system n m r) x i

      go : (t : Bool) → is_empty v ≡ t → (Ready n m r (put x i v) → OnPass (along sum (system n m r) is (put x i v)))
          → OnPass (cond t (refused (refusal.Empty (i + 1))) (along sum (system n m r) is (put x i v)))
      go true f k = tt
      go false f k = k (ready_put sum w i b.0 f)

  sweeps_keep : (p : List ℤ → Run (List ℤ)) → ((x : List ℤ) → Ready n m r x → OnPass (p x))
      → (k : ℕ) (lent x : List ℤ) → Ready n m r lent → Ready n m r x → Ready n m r (last (sweeps n p k x) lent x)
  unfolding sweeps
  sweeps_keep p keeps zero lent x l w = w
  sweeps_keep p keeps (suc k) lent x l w = go (p x) (keeps x w) (λ y. sweeps_keep p keeps k lent y l)
    where
      pick : (b : Bool) (y : List ℤ) → Ready n m r y → (Ready n m r y → Ready n m r (last (sweeps n p k y) lent y))
          → Ready n m r (last (cond b (sweeps n p k y) settled) lent y)
      pick true y h f = f h
      pick false y h f = h

      go : (q : Run (List ℤ)) → OnPass q → ((y : List ℤ) → Ready n m r y → Ready n m r (last (sweeps n p k y) lent y))
          → Ready n m r (last (after n x q (λ y. sweeps n p k y)) lent x)
      go (refused o) h f = l
      go (done y) h f = pick (differ x y n 0) y h (f y)

-- ---- the numbers of the tests are 1 to 4
pub early_tests : (s : System) (k : ℕ) (x : List ℤ) → Early (tests s k x)
unfolding tests allowance
early_tests s k x = search (parts, early_sizes, early_all)

pub refused_not_empty : (s : System) (k : ℕ) (x : List ℤ) {o : Refusal} → tests s k x ≡ Err o → eqb (number_and_place (Err o)).number 7 ≡ false
refused_not_empty s k x {o} e = ne_eqb (number_and_place (Err o)).number 7 (omega (arith, early_number (early_tests s k x) e))

-- ---- a call that said 0 or 9 has passed them
run_keeps : (s : System) (p : List ℤ → Run (List ℤ)) → ((x : List ℤ) → Ready s.size s.matrix s.right x → OnPass s.size s.matrix s.right (p x))
    → (k : ℕ) (x : List ℤ)
    → ((ended (concluded x) x (run_over p s k x)).number ≡ 0) ⊎ ((ended (concluded x) x (run_over p s k x)).number ≡ 9)
    → (1 ≤ s.size) × Ready s.size s.matrix s.right (ended (concluded x) x (run_over p s k x)).left
unfolding tested ended
run_keeps s p keeps k x e = go (tests s k x) refl (early_tests s k x) e
  where
    l : Log
    l = sweeps s.size p k x

    go : (t : Test) → tests s k x ≡ t → Early t
        → ((ended (concluded x) x (tested t (done l))).number ≡ 0) ⊎ ((ended (concluded x) x (tested t (done l))).number ≡ 9)
        → (1 ≤ s.size) × Ready s.size s.matrix s.right (ended (concluded x) x (tested t (done l))).left
    go (Ok _) f h e = let w = ready s k x f in ((fits s k x f).some, sweeps_keep s.size s.matrix s.right p keeps k x x w w)
    go (Err o) f h (inl e) = absurd (omega (arith, early_number h refl))
    go (Err o) f h (inr e) = absurd (omega (arith, early_number h refl))

pub call_keeps : (s : System) (c : Call) (x : List ℤ) → ((call s c x).number ≡ 0) ⊎ ((call s c x).number ≡ 9)
    → (1 ≤ s.size) × Ready s.size s.matrix s.right (call s c x).left
unfolding returned_by run_by sweep
call_keeps s (sweep_call k) x e = run_keeps s (sweep once s) (λ y. along_keeps s.size s.matrix s.right once (up s.size 0) y (sweep_below s.size)) k x e
call_keeps s (symmetric_call k) x e =
    run_keeps s (symmetric once s)
    (λ y w. rw (symmetric_along once s y) (along_keeps s.size s.matrix s.right once (up s.size 0 ++ down s.size) y (symmetric_below s.size) w)) k x e
