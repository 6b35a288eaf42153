-- The claim: from one lent box, or from the boxes that both eliminations wrote, every box lies inside the former one.
use mathlib.Core.Path.{◌≡◌, refl}
use mathlib.Core.List.{List}
use Prim.Native.Nat.{ℕ}
use lib.IntN.{ℤ}
use Rattle.inputs.specs.System.{System}
use Rattle.rows.specs.Sum.{once, singly}
use Rattle.forward.specs.Pivot.{lowest_row}
use Rattle.elimination.specs.Call.{ended_A, ended_B, over_A, over_B}
use Rattle.accuracy.specs.Solution.{balance_of}
use Rattle.accuracy.specs.Claim.{Narrowed}
use Rattle.inside_former.specs.Sweeps.{Inside, InsideFormer}
use Rattle.inside_former.proofs.Calls.{Carried, same, inner, inside}
use Rattle.inside_former.proofs.Elimination.{six_never_new}
use Rattle.inside_former.proofs.Boxes.{Box, singly_ordered, once_ordered, box_A, box_B}

-- two boxes as eliminations write them
both : {n : ℕ} {X Y : List ℤ} → Box n X → Box n Y → Narrowed n X Y → Carried n X Y
both x y h = inner (record { former = x.as_long; new = y.as_long; former_sound = x.sound; new_sound = y.sound; inside = h })

module _ (s : System) (box : List ℤ) where
  carried_A : (ended_A lowest_row singly s box).number ≡ 0 → Carried s.size (ended_A lowest_row singly s box).left (over_A s box).left
  carried_A e =
      let r = (six_never_new.from_A s box).accepted e in
      both (box_A singly singly_ordered s box e) (box_A once once_ordered s box r.0) r.1

  carried_B : (ended_B lowest_row singly s box).number ≡ 0 → Carried s.size (ended_B lowest_row singly s box).left (over_B s box).left
  carried_B e =
      let r = (six_never_new.from_B s box).accepted e in
      both (box_B singly singly_ordered s box e) (box_B once once_ordered s box r.0) r.1

-- I − A has as many rows as A
from_A : (a : System) (box : List ℤ) → (ended_A lowest_row singly a box).number ≡ 0 → Inside (balance_of a) (ended_A lowest_row singly a box).left (over_A a box).left
unfolding balance_of
from_A a box e = inside (balance_of a) _ _ (carried_A a box e)

pub inside_former : InsideFormer
inside_former =
    record {
      lent = λ s X. inside s X X (same refl);
      from_B = λ s box e. inside s _ _ (carried_B s box e);
      from_A = from_A;
    }
