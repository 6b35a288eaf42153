-- The tests of a list that is not too long and passes 11 and 12 are those of the square, but for where 3 counts from.
use mathlib.Core.Path.{◌≡◌, subst}
use mathlib.Core.Bool.{true}
use mathlib.Core.List.{List, [], ◌∷◌}
use Prim.Native.Nat.{ℕ, ◌+◌, ◌*◌, ◌<◌, ◌≤◌}
use native.Mathlib.Nat.{zero-add}
use borrow.Author.Tests.{le-leb, eq-eqb}
use lib.IntN.{ℤ}
use lib.ListN.{length}
use Rattle.outcome.specs.Run.{written}
use Rattle.interval.specs.Interval.{acceptable}
use Rattle.std.specs.Prelude.{Ok}
use Rattle.inputs.specs.Tests.{both, need, lengths, proper, Part, all_proper}
use Rattle.inputs.specs.Tests as inputs
use Rattle.inputs.specs.System as system
use Rattle.inputs.specs.System.{slices, parts}
use Rattle.inputs.proofs.Tests.{both_pass, proper_each, proper_all}
use Rattle.elimination.specs.Call.{run_B}
use Rattle.sweep.specs.Call as sweep
use Rattle.sweep.specs.Call.{concluded, allowance}
use Rattle.sweep.specs.Calls.{Call, sweep_call, symmetric_call, run_by, returned_by, call}
use Rattle.transfers.specs.declared.Transfer.{Transfer}
use Rattle.transfers.specs.Listing.{Listing, nth, share, sizes, entries, shares, intervals, place_of, square, squared}
use Rattle.transfers.specs.Call.{tests, sweep_tests, run_list, sweep_list, call_list}
use Rattle.transfers.proofs.Tried.{tried_all}
use Rattle.transfers.proofs.Square.{length_square, square_sound}
use Rattle.transfers.proofs.Places.{own_place, place_within}
use Rattle.transfers_as_square.specs.Claim.{Agree, NumbersAgree}
use Rattle.transfers_as_square.proofs.Alike.{Alike, alike_self, alike_both, alike_all, three_tried, three_proper, alike_threes, agrees}

-- ---- the records' intervals are those of the square that are not nought
module _ (n : ℕ) (ts : List Transfer) (e : entries n ts ≡ Ok tt) where
  in_square : shares ts (length ts) 0 ≡ Ok tt → proper (square n ts) (n * n) 0 0 ≡ Ok tt
  unfolding entries
  in_square f =
      let b = both_pass _ _ e in
      let s = square_sound n ts record { components = b.0; order = b.1; intervals = f } in
      proper_all (square n ts) (n * n) 0 0 (λ k h. s.each (0 + k))

  in_list : proper (square n ts) (n * n) 0 0 ≡ Ok tt → shares ts (length ts) 0 ≡ Ok tt
  in_list f = tried_all _ _ (length ts) 0 go
    where
      go : (j : ℕ) → j < length ts → acceptable (share (nth ts (0 + j))) ≡ true
      go j h = rw (zero-add j, ← own_place n ts e j h) (rw (zero-add (place_of n (nth ts j))) at (proper_each (square n ts) (n * n) 0 0 f (place_of n (nth ts j)) (place_within n ts e j h)))

  alike_shares : Alike (shares ts (length ts) 0) (proper (square n ts) (n * n) 0 0)
  alike_shares = alike_threes _ _ (three_tried _ (length ts) 0) (three_proper (square n ts) (n * n) 0 0) in_square in_list

module _ (s : Listing) (short : length s.transfers ≤ 1024) (e : entries s.size s.transfers ≡ Ok tt) where
  same_sizes : (l : ℕ) → sizes s l ≡ inputs.sizes s.size (slices (squared s) l)
  unfolding sizes inputs.sizes lengths both need
  same_sizes l = rw (le-leb (length s.transfers) 1024 short, eq-eqb _ _ (length_square s.size s.transfers))

  alike_sizes : (l : ℕ) → Alike (sizes s l) (inputs.sizes s.size (slices (squared s) l))
  alike_sizes l = subst (Alike (sizes s l)) (same_sizes l) (alike_self (sizes s l))

  alike_intervals : (ps : List Part) → Alike (both (entries s.size s.transfers) (intervals s ps)) (all_proper 0 (parts (squared s) ps))
  unfolding intervals both all_proper
  alike_intervals ps =
      rw e (alike_both _ _ (alike_shares s.size s.transfers e) (alike_all (record { numbers = s.right; count = s.size } ∷ ps) (length s.transfers) (0 + s.size * s.size)))

  alike_tests : (l : ℕ) → Alike (tests s l) (system.tests (squared s) l)
  unfolding tests system.tests
  alike_tests l = alike_both _ _ (alike_sizes l) (alike_intervals [])

  alike_sweep_tests : (k : ℕ) (X : List ℤ) → Alike (sweep_tests s k X) (sweep.tests (squared s) k X)
  unfolding sweep_tests sweep.tests
  alike_sweep_tests k X = alike_both _ _ (alike_sizes (length X)) (alike_both _ _ (alike_self (allowance k)) (alike_intervals (record { numbers = X; count = s.size } ∷ [])))

  calls_agree : (c : Call) (X : List ℤ) → Agree (call_list s c X) (call (squared s) c X)
  unfolding returned_by sweep_list run_by
  calls_agree (sweep_call k) X = agrees (concluded X) X _ _ _ (alike_sweep_tests k X)
  calls_agree (symmetric_call k) X = agrees (concluded X) X _ _ _ (alike_sweep_tests k X)

pub numbers_agree : NumbersAgree
unfolding run_list run_B
numbers_agree s short e =
    record { elimination = λ X. agrees written X _ _ _ (alike_tests s short e (length X)); sweeps = calls_agree s short e }
