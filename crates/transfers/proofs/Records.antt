-- Records as four numbers each, and the transfers that they are.
use mathlib.Core.Path.{◌≡◌, refl, ap}
use mathlib.Core.List.{List, [], ◌∷◌}
use Prim.Native.Nat.{ℕ, zero, suc}
use lib.IntN.{ℤ}
use lib.ListN.{length, get_or}
use Rattle.transfers.specs.Listing.{nth, transfer_of, transfers_of}

pub length_transfers : (rs : List (List ℤ)) → length (transfers_of rs) ≡ length rs
unfolding transfers_of
length_transfers [] = refl
length_transfers (r ∷ rs) = ap suc (length_transfers rs)

pub nth_transfers : (rs : List (List ℤ)) (k : ℕ) → nth (transfers_of rs) k ≡ transfer_of (get_or rs k [])
unfolding transfers_of transfer_of
nth_transfers [] k = refl
nth_transfers (r ∷ rs) zero = refl
nth_transfers (r ∷ rs) (suc k) = nth_transfers rs k
