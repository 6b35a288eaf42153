-- One step of a test over all records, and what it says when it passes.
use mathlib.Core.Path.{◌≡◌, refl}
use mathlib.Core.Bool.{Bool, true, false}
use Prim.Native.Nat.{ℕ, zero, suc, ◌+◌, ◌-◌, ◌≤◌, ◌<◌}
use native.Mathlib.Omega.{arith}
use Rattle.outcome.specs.declared.Refusal.{Refusal}
use Rattle.std.specs.Prelude.{Ok, Err}
use Rattle.inputs.specs.Tests.{both, need}
use Rattle.inputs.proofs.Tests.{both_pass, need_pass}
use Rattle.transfers.specs.Listing.{tried}

module _ (p : ℕ → Bool) (o : ℕ → Refusal) where
  -- the records left are count − k
  module _ (count k : ℕ) where
    pub tried_end : count ≤ k → tried p o (count - k) k ≡ Ok tt
    unfolding tried
    tried_end h = let e : count - k ≡ 0 = omega arith in rw e

    pub tried_go : k < count → p k ≡ true → tried p o (count - k) k ≡ tried p o (count - (k + 1)) (k + 1)
    unfolding tried need both
    tried_go h e = let f : count - k ≡ suc (count - (k + 1)) = omega arith in rw (f, e)

    pub tried_out : k < count → p k ≡ false → tried p o (count - k) k ≡ Err (o k)
    unfolding tried need both
    tried_out h e = let f : count - k ≡ suc (count - (k + 1)) = omega arith in rw (f, e)

  pub tried_each : (d k : ℕ) → tried p o d k ≡ Ok tt → (j : ℕ) → j < d → p (k + j) ≡ true
  unfolding tried
  tried_each zero k e j h = absurd (omega arith)
  tried_each (suc d) k e zero h = let f : k + 0 ≡ k = omega arith in rw f (need_pass _ (o k) (both_pass _ (tried p o d (k + 1)) e).0)
  tried_each (suc d) k e (suc j) h = let f : k + suc j ≡ k + 1 + j = omega arith in rw f (tried_each d (k + 1) (both_pass _ (tried p o d (k + 1)) e).1 j (omega arith))

  pub tried_all : (d k : ℕ) → ((j : ℕ) → j < d → p (k + j) ≡ true) → tried p o d k ≡ Ok tt
  unfolding tried need both
  tried_all zero k h = refl
  tried_all (suc d) k h =
      let e : k + 0 ≡ k = omega arith in
      let a : p k ≡ true = rw e at (h 0 (omega arith)) in
      rw a (tried_all d (k + 1) (λ j l. let f : k + suc j ≡ k + 1 + j = omega arith in rw f at (h (suc j) (omega arith))))
