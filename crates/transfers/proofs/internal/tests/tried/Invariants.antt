use Rattle.std.proofs.Common.{◌≡◌, ℕ, Bool, ◌-◌, ◌<◌, ◌≤◌}
use Rattle.outcome.specs.declared.Refusal.{Refusal}
use Rattle.transfers.specs.Listing.{tried}
use Rattle.transfers.proofs.internal.tests.tried.Given as goal

-- the records before k have met the test, whatever it is
abbrev pub invariant-loop-k : goal.invariant-loop-k
invariant-loop-k g l =
    (p : ℕ → Bool) (o : ℕ → Refusal) → ((k : ℕ) (b : Bool) → l.from ≤ k → k < l.count → goal.M-post g l.meets k b → b ≡ p k)
    → tried p o (l.count - l.from) l.from ≡ tried p o (l.count - l.k) l.k
