-- What the answer of a search says.
use mathlib.Core.Path.{◌≡◌, sym, subst, ◌∙◌}
use mathlib.Core.List.{List}
use Prim.Native.Nat.{ℕ, ◌≤◌, ◌<◌}
use lib.ListN.{length}
use Rattle.std.specs.Prelude.{Option, Some}
use Rattle.search.specs.First.{first_from, within}

-- b stands at e, for the first time from a place on
pub record FirstAt (s : List ℕ) (from b e : ℕ) : Type 0 where
  pub is : first_from s from b ≡ Some e
  pub low : from ≤ e
  pub high : e < length s

pub first_at : {s : List ℕ} {from b e : ℕ} {r : Option ℕ} → (r ≡ first_from s from b) × within s from r → r ≡ Some e → FirstAt s from b e
first_at {s} {from} c q = let w = subst (within s from) q c.1 in record { is = sym c.0 ∙ q; low = w.0; high = w.1 }
