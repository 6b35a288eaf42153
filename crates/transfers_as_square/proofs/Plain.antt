-- What fails before a calculation does so with neither 0 nor 7.
use mathlib.Core.Path.{◌≡◌, refl}
use mathlib.Core.Bool.{Bool, true, false, ◌||◌}
use mathlib.Core.List.{List, [], ◌∷◌}
use Prim.Native.Nat.{ℕ, zero, suc, ◌+◌}
use lib.Dec.{eqb}
use lib.IntN.{ℤ}
use Rattle.outcome.specs.declared.Refusal.{Refusal}
use Rattle.outcome.specs.declared.Refusal.TheVariants as refusal
use Rattle.outcome.specs.Table.{number_and_place}
use Rattle.interval.specs.Interval.{acceptable}
use Rattle.inputs.specs.Tests.{Test, both, need, sized, lengths, proper, Part, all_proper}
use Rattle.std.specs.Prelude.{Ok, Err}
use Rattle.inputs.specs.Place.{at}
use Rattle.inputs.specs.declared.Slice.{Slice}
use Rattle.inputs.specs.Tests as inputs
use Rattle.sweep.specs.Call.{allowance}
use Rattle.transfers.specs.Listing.{Listing, sizes, tried, entries, intervals}
use Rattle.transfers.specs.Call.{tests, sweep_tests}

abbrev pub Neither : Refusal → Type 0
Neither o = (eqb (number_and_place (Err o)).number 0 || eqb (number_and_place (Err o)).number 7) ≡ false

abbrev OnTest : Test → Type 0
OnTest (Ok _) = Unit {0}
OnTest (Err o) = Neither o

pub record Plain (t : Test) : Type 0 where
  pub on : OnTest t

pub plain_pass : Plain (Ok tt)
plain_pass = record { on = tt }

pub plain_need : (b : Bool) (o : Refusal) → Neither o → Plain (need b o)
unfolding need
plain_need true o h = plain_pass
plain_need false o h = record { on = h }

pub plain_both : (t u : Test) → Plain t → Plain u → Plain (both t u)
unfolding both
plain_both (Ok _) u h k = k
plain_both (Err o) u h k = record { on = h.on }

plain_tried : (p : ℕ → Bool) (o : ℕ → Refusal) → ((k : ℕ) → Neither (o k)) → (d k : ℕ) → Plain (tried p o d k)
unfolding tried
plain_tried p o h zero k = plain_pass
plain_tried p o h (suc d) k = plain_both _ _ (plain_need (p k) (o k) (h k)) (plain_tried p o h d (k + 1))

plain_lengths : (ss : List Slice) → Plain (lengths ss)
unfolding lengths
plain_lengths [] = plain_pass
plain_lengths (s ∷ ss) = plain_both _ _ (plain_need _ (refusal.Length s.place) refl) (plain_lengths ss)

plain_proper : (t : List ℤ) (d p from : ℕ) → Plain (proper t d p from)
unfolding proper
plain_proper t zero p from = plain_pass
plain_proper t (suc d) p from = plain_both _ _ (plain_need (acceptable (at t p)) (refusal.Ends (from + p)) refl) (plain_proper t d (p + 1) from)

plain_all : (from : ℕ) (ps : List Part) → Plain (all_proper from ps)
unfolding all_proper
plain_all from [] = plain_pass
plain_all from (p ∷ ps) = plain_both _ _ (plain_proper p.numbers p.count 0 from) (plain_all (from + p.count) ps)

plain_sized : (n : ℕ) → Plain (sized n)
unfolding sized
plain_sized n = plain_need _ refusal.Size refl

pub plain_input_sizes : (n : ℕ) (ss : List Slice) → Plain (inputs.sizes n ss)
unfolding inputs.sizes
plain_input_sizes n ss = plain_both _ _ (plain_sized n) (plain_lengths ss)

-- ---- the tests of a list
module _ (s : Listing) where
  plain_sizes : (l : ℕ) → Plain (sizes s l)
  unfolding sizes
  plain_sizes l = plain_both _ _ (plain_sized s.size) (plain_both _ _ (plain_need _ (refusal.Length 1) refl) (plain_lengths _))

  plain_records : (ps : List Part) → Plain (both (entries s.size s.transfers) (intervals s ps))
  unfolding entries intervals
  plain_records ps =
      plain_both _ _ (plain_both _ _ (plain_tried _ refusal.OutOfMatrix (λ k. refl) _ 0) (plain_tried _ refusal.OutOfOrder (λ k. refl) _ 1))
      (plain_both _ _ (plain_tried _ refusal.Ends (λ k. refl) _ 0) (plain_all _ _))

  pub plain_tests : (l : ℕ) → Plain (tests s l)
  unfolding tests
  plain_tests l = plain_both _ _ (plain_sizes l) (plain_records [])

  pub plain_sweep_tests : (k : ℕ) (X : List ℤ) → Plain (sweep_tests s k X)
  unfolding sweep_tests allowance
  plain_sweep_tests k X = plain_both _ _ (plain_sizes _) (plain_both _ _ (plain_need _ refusal.Allowed refl) (plain_records _))
