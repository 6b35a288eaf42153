-- From one box to a later one, and what is asked of a pass over a box, whatever the pass is.
use mathlib.Core.Path.{◌≡◌, refl, ◌∙◌}
use mathlib.Core.List.{List}
use Prim.Native.Nat.{ℕ, ◌*◌, ◌<◌}
use lib.IntN.{ℤ}
use lib.ListN.{length}
use lib.Signed.{◌≤ℤ◌}
use Rattle.fraction.specs.Fraction.{Fraction}
use Rattle.fraction.proofs.Contains.{contains_refl, contains_trans}
use Rattle.inputs.specs.Place.{at}
use Rattle.inputs.specs.System.{System}
use Rattle.outcome.specs.Run.{Run, refused, done}
use Rattle.accuracy.specs.Solution.{Solution, InBox}
use Rattle.accuracy.specs.Claim.{Narrowed}

-- no interval of the box is empty
pub record Ordered (n : ℕ) (X : List ℤ) : Type 0 where
  pub each : (j : ℕ) → j < n → (at X j).lo ≤ℤ (at X j).hi

module _ (s : System) where
  -- the one relation that carries a list of calls: Y is as long as X, no bound of it is wider, none is empty that was not, every solution is kept
  pub record Follows (X Y : List ℤ) : Type 0 where
    pub as_long : length Y ≡ length X
    pub narrowed : Narrowed s.size X Y
    pub ordered : Ordered s.size X → Ordered s.size Y
    pub keeps : (x : ℕ → Fraction) → Solution s x → InBox s.size X x → InBox s.size Y x

  pub follows_refl : (X : List ℤ) → Follows X X
  follows_refl X = record { as_long = refl; narrowed = record { each = λ j h. contains_refl (at X j) }; ordered = λ o. o; keeps = λ x sol h. h }

  pub follows_trans : {X Y Z : List ℤ} → Follows X Y → Follows Y Z → Follows X Z
  follows_trans f g =
      record {
        as_long = g.as_long ∙ f.as_long;
        narrowed = record { each = λ j h. contains_trans (f.narrowed.each j h) (g.narrowed.each j h) };
        ordered = λ o. g.ordered (f.ordered o);
        keeps = λ x sol h. g.keeps x sol (f.keeps x sol h);
      }

  abbrev pub NoSolution : List ℤ → Type 0
  NoSolution X = (x : ℕ → Fraction) → Solution s x → InBox s.size X x → ⊥

  pub earlier : {X Y : List ℤ} → Follows X Y → NoSolution Y → NoSolution X
  earlier f e x sol h = e x sol (f.keeps x sol h)

  -- a whole pass leaves a box that follows, and one that stops tells that no solution lies in the box before it
  abbrev pub OnPass : List ℤ → Run (List ℤ) → Type 0
  OnPass X (refused o) = NoSolution X
  OnPass X (done Y) = Follows X Y

  -- a way to pass over a box of the right length. The laws of calls and lists ask no more of a pass than this
  pub record Faithful (p : List ℤ → Run (List ℤ)) : Type 0 where
    pub each : (X : List ℤ) → length X ≡ 2 * s.size → OnPass X (p X)
