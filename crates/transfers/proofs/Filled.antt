-- One record more in the square.
use mathlib.Core.Path.{◌≡◌}
use mathlib.Core.List.{List}
use Prim.Native.Nat.{ℕ, suc, ◌+◌, ◌-◌, ◌≤◌, ◌<◌}
use native.Mathlib.Omega.{arith}
use lib.IntN.{ℤ}
use Rattle.inputs.specs.Place.{put}
use Rattle.transfers.specs.declared.Transfer.{Transfer}
use Rattle.transfers.specs.Listing.{nth, share, place_of, filled}

module _ (n : ℕ) (ts : List Transfer) (count k : ℕ) (m : List ℤ) where
  pub filled_end : count ≤ k → filled n ts (count - k) k m ≡ m
  unfolding filled
  filled_end h = let e : count - k ≡ 0 = omega arith in rw e

  pub filled_go : k < count → filled n ts (count - k) k m ≡ filled n ts (count - (k + 1)) (k + 1) (put m (place_of n (nth ts k)) (share (nth ts k)))
  unfolding filled
  filled_go h = let e : count - k ≡ suc (count - (k + 1)) = omega arith in rw e
