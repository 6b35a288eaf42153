-- The sweeps of a call that change the box are never more than the sum of its start widths.
use mathlib.Core.Path.{◌≡◌, refl, subst}
use mathlib.Core.Bool.{Bool, true, false, cond, ◌||◌}
use mathlib.Core.List.{List}
use Prim.Native.Nat.{ℕ, zero, suc, ◌+◌, ◌≤◌}
use native.Mathlib.Omega.{arith}
use lib.IntN.{ℤ, pos, ◌+ℤ◌, ◌-ℤ◌}
use lib.Signed.{◌≤ℤ◌, ◌<ℤ◌, lt_z, ≤ℤ_refl, clash_ℤ}
use Rattle.integer.specs.Total.{total}
use Rattle.integer.proofs.Linear.{linear, over}
use Rattle.integer.proofs.Order.{taken}
use Rattle.interval.specs.declared.Interval.{Interval}
use Rattle.interval.specs.Interval.{width}
use Rattle.fraction.specs.Meaning.{Contains}
use Rattle.inputs.specs.Place.{at, widths}
use Rattle.inputs.specs.System.{System}
use Rattle.sweep.specs.Pass.{differs, differ}
use Rattle.sweep.specs.Call.{Log, stopped, settled, spent, swept}
use Rattle.accuracy.specs.Claim.{Narrowed}
use Rattle.accuracy.specs.Changing.{changing, FewChanges}
use Rattle.accuracy.proofs.Follows.{Ordered}
use Rattle.accuracy.proofs.Calls.{OnLog, OnRun, on_run}

-- ---- sums of widths of boxes without an empty interval
widths_above : {n : ℕ} {X : List ℤ} → Ordered n X → (d j : ℕ) → j + d ≤ n → pos 0 ≤ℤ widths X d j
unfolding widths total
widths_above o zero j h = ≤ℤ_refl (pos 0)
widths_above {X = X} o (suc d) j h = go (at X j).lo (at X j).hi (widths X d (j + 1)) (o.each j (omega arith)) (widths_above o d (j + 1) (omega arith))
  where
    go : (l u t : ℤ) → l ≤ℤ u → pos 0 ≤ℤ t → pos 0 ≤ℤ (u -ℤ l +ℤ t)
    go = over 3 _ (λ ρ. simp (linear, ρ) (omega arith))

-- a 1 for a change, as `changing` counts it
abbrev one : Bool → ℤ
one b = pos (cond b 1 0)

-- an end of w that is not v's has moved inward, and w is then narrower by a unit at least
module _ {v w : Interval} (h : Contains v w) where
  moved : (width w +ℤ one (differs v w)) ≤ℤ width v
  unfolding differs
  moved = go (lt_z v.lo w.lo) refl (lt_z w.lo v.lo) refl (lt_z v.hi w.hi) refl (lt_z w.hi v.hi) refl
    where
      by_low : (a b c d : ℤ) → a <ℤ c → d ≤ℤ b → (d -ℤ c +ℤ pos 1) ≤ℤ (b -ℤ a)
      by_low = over 4 _ (λ ρ. simp (linear, ρ) (omega arith))

      by_high : (a b c d : ℤ) → a ≤ℤ c → d <ℤ b → (d -ℤ c +ℤ pos 1) ≤ℤ (b -ℤ a)
      by_high = over 4 _ (λ ρ. simp (linear, ρ) (omega arith))

      neither : (a b c d : ℤ) → a ≤ℤ c → d ≤ℤ b → (d -ℤ c +ℤ pos 0) ≤ℤ (b -ℤ a)
      neither = over 4 _ (λ ρ. simp (linear, ρ) (omega arith))

      go : (p : Bool) → lt_z v.lo w.lo ≡ p → (q : Bool) → lt_z w.lo v.lo ≡ q → (r : Bool) → lt_z v.hi w.hi ≡ r → (t : Bool) → lt_z w.hi v.hi ≡ t →
          (width w +ℤ one ((p || q) || (r || t))) ≤ℤ width v
      go true e q f r g t k = by_low v.lo v.hi w.lo w.hi (taken _ _ e) h.high
      go false e true f r g t k = clash_ℤ (taken _ _ f) h.low
      go false e false f true g t k = clash_ℤ (taken _ _ g) h.high
      go false e false f false g true k = by_high v.lo v.hi w.lo w.hi h.low (taken _ _ k)
      go false e false f false g false k = neither v.lo v.hi w.lo w.hi h.low h.high

-- one unit for one or more components that changed
widths_less : {n : ℕ} {X Y : List ℤ} → Narrowed n X Y → (d j : ℕ) → j + d ≤ n → (widths Y d j +ℤ one (differ X Y d j)) ≤ℤ widths X d j
unfolding widths total differ
widths_less h zero j l = ≤ℤ_refl (pos 0)
widths_less {X = X} {Y} h (suc d) j l =
    go (differs (at X j) (at Y j)) (differ X Y d (j + 1)) (width (at X j)) (width (at Y j)) (widths X d (j + 1)) (widths Y d (j + 1))
    (moved (h.each j (omega arith))) (widths_less h d (j + 1) (omega arith))
  where
    go : (b c : Bool) (x y t u : ℤ) → (y +ℤ one b) ≤ℤ x → (u +ℤ one c) ≤ℤ t → (y +ℤ u +ℤ one (b || c)) ≤ℤ (x +ℤ t)
    go true true = over 4 _ (λ ρ. simp (linear, ρ) (omega arith))
    go true false = over 4 _ (λ ρ. simp (linear, ρ) (omega arith))
    go false true = over 4 _ (λ ρ. simp (linear, ρ) (omega arith))
    go false false = over 4 _ (λ ρ. simp (linear, ρ) (omega arith))

-- ---- the sweeps of a call
log_few : (s : System) {X : List ℤ} (l : Log) → Ordered s.size X → OnLog s X l → pos (changing s.size l X) ≤ℤ widths X s.size 0
unfolding changing
log_few s (stopped r) o h = widths_above o s.size 0 (omega arith)
log_few s settled o h = widths_above o s.size 0 (omega arith)
log_few s spent o h = widths_above o s.size 0 (omega arith)
log_few s {X} (swept Y l) o h =
    go (pos (changing s.size l Y)) (widths X s.size 0) (widths Y s.size 0) (one (differ X Y s.size 0))
    (log_few s l (h.0.ordered o) h.1) (widths_less h.0.narrowed s.size 0 (omega arith))
  where
    go : (k t u c : ℤ) → k ≤ℤ u → (u +ℤ c) ≤ℤ t → (c +ℤ k) ≤ℤ t
    go = over 4 _ (λ ρ. simp linear (omega arith))

pub few_changes : FewChanges
few_changes s c X l e = let h = subst (OnRun s X) e (on_run s c X) in log_few s l h.0 h.1
