-- The box of a state, from what the state stands for.
use mathlib.Core.Path.{◌≡◌, refl}
use mathlib.Core.Bool.{Bool, true, false, cond}
use mathlib.Core.List.{List, []}
use borrow.Author.Tests.{eqb-true}
use lib.Dec.{eqb}
use lib.IntN.{ℤ}
use Rattle.half_rows.specs.State.{size_of, turn_of, system_of, due}
use Rattle.half_rows_afresh.specs.Afresh.{Held, nothing, held, held_in}
use Rattle.half_rows_afresh.specs.Claim.{box_in}

abbrev pub box_held : Held → List ℤ
box_held nothing = []
box_held (held s b X) = X

pub box_held_lem : (t : List ℤ) → box_in t ≡ box_held (held_in t)
unfolding held_in
box_held_lem t = go (eqb (size_of t) 0) refl
  where
    h : Held
    h = held (system_of t (size_of t)) (eqb (turn_of t) (due true)) (box_in t)

    go : (b : Bool) → eqb (size_of t) 0 ≡ b → box_in t ≡ box_held (cond b nothing h)
    go true e = rw (eqb-true (size_of t) 0 e)
    go false e = refl
