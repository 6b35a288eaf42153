-- Document 01, The list in demand 3: the accuracy rule, one claim about a list of sweep calls of any length.
use Rattle.std.specs.Prelude.{◌≡◌, Bool, List, [], ◌∷◌, ℕ, ◌<◌, T, ℤ, ◌-ℤ◌, ◌*ℤ◌, ◌≤ℤ◌}
use Rattle.outcome.specs.Run.{Returned}
use Rattle.interval.specs.Interval.{width}
use Rattle.fraction.specs.Fraction.{Fraction, Inside}
use Rattle.fraction.specs.Meaning.{Contains}
use Rattle.inputs.specs.Place.{at}
use Rattle.inputs.specs.System.{System}
use Rattle.elimination.specs.Call.{over_A, over_B}
use Rattle.sweep.specs.Calls.{Call, Change, changes, any_empty}
use Rattle.accuracy.specs.Solution.{Solution, InBox, balance_of}

-- 'Elimination accepted if it returned 0': an elimination call that was lent this box did so, and left X in it
pub record Accepted (call : List ℤ → Returned (List ℤ)) (box X : List ℤ) : Type 0 where
  pub returned : (call box).number ≡ 0
  pub left : X ≡ (call box).left

-- 'It begins with the box that elimination wrote, or with any box that the caller lends'
pub data Start (s : System) (X : List ℤ) : Type 0 where
  lent : Start s X
  from_B : (box : List ℤ) → Accepted (over_B s) box X → Start s X
  from_A : (a : System) (box : List ℤ) → s ≡ balance_of a → Accepted (over_A a) box X → Start s X

-- the solutions that the rule speaks of: those in a box that the caller lends, and all after an elimination
abbrev pub Covered : {s : System} {X : List ℤ} → Start s X → (ℕ → Fraction) → Type 0
Covered {s} {X} lent x = InBox s.size X x
Covered (from_B box e) x = Unit {0}
Covered (from_A a box f e) x = Unit {0}

-- a and y are apart by at most w units
pub record OffBy (w : ℤ) (a y : Fraction) : Type 0 where
  pub below : (y.num *ℤ a.den -ℤ a.num *ℤ y.den) ≤ℤ (w *ℤ (a.den *ℤ y.den))
  pub above : (a.num *ℤ y.den -ℤ y.num *ℤ a.den) ≤ℤ (w *ℤ (a.den *ℤ y.den))

-- the weights lie in the box, and any figure inside the bounds of one is off from it by at most their width
pub record Bounded (n : ℕ) (X : List ℤ) (x : ℕ → Fraction) : Type 0 where
  pub inside : InBox n X x
  pub close : (j : ℕ) → j < n → (y : Fraction) → Inside (at X j) y → OffBy (width (at X j)) (x j) y

-- 'a bound is widened if a lower end falls or an upper end rises': none is, from X to Y
pub record Narrowed (n : ℕ) (X Y : List ℤ) : Type 0 where
  pub each : (j : ℕ) → j < n → Contains (at X j) (at Y j)

abbrev pub Every : (Change → Type 0) → List Change → Type 0
Every P [] = Unit {0}
Every P (c ∷ cs) = P c × Every P cs

-- the rule, for a system and a box to begin with, of the changes that a list of calls made to it; 'empty' is whether one of them returned 7
pub record Accuracy (s : System) (X : List ℤ) (start : Start s X) (changes : List Change) (empty : Bool) : Type 0 where
  -- every solution lies within the bounds at the start, after every whole sweep and after every call
  pub bounded_at_start : (x : ℕ → Fraction) → Solution s x → Covered start x → Bounded s.size X x
  pub bounded_after : (x : ℕ → Fraction) → Solution s x → Covered start x → Every (λ c. Bounded s.size c.after x) changes
  -- 'empty' is said only if no solution lies in the box that the list began with
  pub empty_only : T empty → (x : ℕ → Fraction) → Solution s x → InBox s.size X x → ⊥
  -- no sweep and no call widens a bound
  pub never_wider : Every (λ c. Narrowed s.size c.before c.after) changes

-- 'a single claim about the list, of any length': it holds for every balance, every box to begin with and every list of calls
abbrev pub AccuracyRule : Type 0
AccuracyRule = (s : System) (X : List ℤ) (start : Start s X) (calls : List Call) → Accuracy s X start (changes s calls X) (any_empty s calls X)
