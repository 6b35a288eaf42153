-- The tests of the records, one after the other, and what they say when they pass.
use mathlib.Core.Path.{◌≡◌}
use mathlib.Core.List.{List}
use Prim.Native.Nat.{ℕ, ◌-◌}
use lib.ListN.{length}
use Rattle.std.specs.Prelude.{Ok}
use Rattle.inputs.proofs.Tests.{both_pass}
use Rattle.transfers.specs.declared.Transfer.{Transfer}
use Rattle.transfers.specs.Listing.{known, ordered, entries, shares}
use Rattle.transfers.specs.Code.{judgement}

-- a list that passed
pub record Passed (n : ℕ) (ts : List Transfer) : Type 0 where
  pub components : known n ts (length ts) 0 ≡ Ok tt
  pub order : ordered ts (length ts - 1) 1 ≡ Ok tt
  pub intervals : shares ts (length ts) 0 ≡ Ok tt

pub passed : (n : ℕ) (ts : List Transfer) → judgement n ts ≡ Ok tt → Passed n ts
unfolding judgement entries
passed n ts e =
    let f = both_pass _ _ e in
    let g = both_pass _ _ f.0 in
    record { components = g.0; order = g.1; intervals = f.1 }
