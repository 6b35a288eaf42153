-- The components of a half pass in sequence, either way, with d of n left: the next one, those that are ahead, those that are passed.
use mathlib.Core.Path.{◌≡◌, refl, ap}
use mathlib.Core.Logic.{◌≢◌}
use mathlib.Core.Bool.{Bool, true, false, not}
use mathlib.Core.List.{List, [], ◌∷◌}
use Prim.Native.Nat.{ℕ, suc, ◌+◌, ◌-◌, ◌≤◌, ◌<◌}
use native.Mathlib.Omega.{arith}
use Rattle.sweep.specs.Pass.{up, down}
use Rattle.half_rows.specs.Rows.{components}
use Rattle.half_rows_afresh.proofs.Sums.{Unread}

abbrev pub left : (back : Bool) → (n d : ℕ) → List ℕ
left true n d = down d
left false n d = up d (n - d)

-- the one that has d after it
abbrev pub turn : (back : Bool) → (n d : ℕ) → ℕ
turn true n d = d
turn false n d = n - suc d

abbrev pub Ahead : (back : Bool) → (n d j : ℕ) → Type 0
Ahead true n d j = j < d
Ahead false n d j = n ≤ j + d

abbrev pub Passed : (back : Bool) → (n d j : ℕ) → Type 0
Passed true n d j = d ≤ j
Passed false n d j = j + d < n

pub left_all : (back : Bool) (n : ℕ) → left back n n ≡ components back n
unfolding components
left_all true n = refl
left_all false n = let e : n - n ≡ 0 = omega arith in ap (up n) e

pub left_none : (back : Bool) (n : ℕ) → left back n 0 ≡ []
unfolding up down
left_none true n = refl
left_none false n = refl

pub passed_all : (back : Bool) (n j : ℕ) → j < n → Passed back n 0 j
passed_all true n j h = omega arith
passed_all false n j h = omega arith

pub passed_none : (back : Bool) (n j : ℕ) → j < n → Passed back n n j → ⊥
passed_none true n j h k = omega arith
passed_none false n j h k = omega arith

-- ---- the next one
module _ (n d : ℕ) (h : suc d ≤ n) where
  pub left_next : (back : Bool) → left back n (suc d) ≡ turn back n d ∷ left back n d
  unfolding up down
  left_next true = refl
  left_next false = let e : n - suc d + 1 ≡ n - d = omega arith in ap (λ (i : ℕ). (n - suc d) ∷ up d i) e

  pub turn_below : (back : Bool) → turn back n d < n
  turn_below true = h
  turn_below false = omega arith

  pub turn_ahead : (back : Bool) → Ahead back n (suc d) (turn back n d)
  turn_ahead true = omega arith
  turn_ahead false = omega arith

  module _ (j : ℕ) where
    pub ahead_before : (back : Bool) → Ahead back n d j → Ahead back n (suc d) j
    ahead_before true k = omega arith
    ahead_before false k = omega arith

    pub passed_before : (back : Bool) → Passed back n d j → j ≢ turn back n d → Passed back n (suc d) j
    passed_before true k e = omega (arith, k, e)
    passed_before false k e = omega (arith, k, e)

    -- no sum that is still read of those ahead reads it, and none of those passed
    pub ahead_unread : (back : Bool) → Ahead back n d j → Unread (not back) j (turn back n d)
    ahead_unread true k = omega arith
    ahead_unread false k = omega arith

    pub passed_unread : (back : Bool) → Passed back n d j → Unread back j (turn back n d)
    passed_unread true k = omega arith
    passed_unread false k = omega arith
