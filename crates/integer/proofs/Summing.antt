-- One turn of a loop that adds up terms on an `i64`: none of them is negative, none is above a limit, and there are few.
use mathlib.Core.Path.{◌≡◌}
use Prim.Native.Nat.{ℕ, ◌+◌, ◌*◌, ◌≤◌, ◌<◌}
use native.Mathlib.Omega.{arith}
use native.Mathlib.Nat.{mul-le-mul}
use lib.Dec.{le→leb}
use lib.IntN.{ℤ, pos, ◌+ℤ◌}
use lib.Signed.{◌≤ℤ◌}
use mir.Syntax.{w64}
use mir.Val.{SFits, to_z, of_z}
use mir.ValLaws.{to_z-of_z}
use Rattle.integer.specs.Total.{total}
use Rattle.integer.proofs.Linear.{linear, over}
use Rattle.integer.proofs.Order.{trans}
use Rattle.integer.proofs.Machine.{fits64}
use Rattle.integer.proofs.Total.{total_more, total_above, total_at_most}

-- a term of such a sum
pub record Term (limit : ℕ) (z : ℤ) : Type 0 where
  pub above : pos 0 ≤ℤ z
  pub at_most : z ≤ℤ pos limit

pub pos_le : (a b : ℕ) → a ≤ b → pos a ≤ℤ pos b
pos_le a b h = record { le = le→leb a b h }

pub term_fits : {k : ℕ} {z : ℤ} → k ≤ 1000000000000000000 → Term k z → SFits w64 z
term_fits {k} {z} h t = go z t.above (trans t.at_most (pos_le k 1000000000000000000 h))
  where
    go : (z : ℤ) → pos 0 ≤ℤ z → z ≤ℤ pos 1000000000000000000 → SFits w64 z
    go = over 1 _ (λ ρ. simp (fits64, linear, ρ) (omega arith))

module _ (f : ℕ → ℤ) (limit n : ℕ) (each : (l : ℕ) → l < n → Term limit (f l)) where
  -- the sum of the first d terms
  pub total_term_of : (d : ℕ) → d ≤ n → Term (limit * d) (total f d 0)
  total_term_of d h =
      record {
        above = total_above f d 0 (λ l a b. (each l (omega arith)).above);
        at_most = total_at_most f limit d 0 (λ l a b. (each l (omega arith)).at_most);
      }

  module _ (few : limit * n ≤ 1000000000000000000) where
    pub total_fits : (d : ℕ) → d ≤ n → SFits w64 (total f d 0)
    total_fits d h = let k : limit * d ≤ limit * n = mul-le-mul {n₁ = limit} {m₁ = d} {n₂ = limit} {m₂ = n} (omega arith) h in term_fits (omega arith) (total_term_of d h)

    -- the sum so far, and the next term
    module _ (i : ℕ) (h : i < n) {sum z : ℤ} (e : sum ≡ total f i 0) (g : z ≡ f i) where
      one_fits : SFits w64 (f i)
      one_fits = let k : limit * 1 ≤ limit * n = mul-le-mul {n₁ = limit} {m₁ = 1} {n₂ = limit} {m₂ = n} (omega arith) (omega arith) in term_fits (omega arith) (each i h)

      both : sum +ℤ to_z w64 (of_z w64 z) ≡ total f (i + 1) 0
      both = rw (e, g, to_z-of_z w64 (f i) one_fits) (total_more f i)

      pub add_safe : SFits w64 (sum +ℤ to_z w64 (of_z w64 z))
      add_safe = rw both (total_fits (i + 1) (omega arith))

      pub add_is : to_z w64 (of_z w64 (sum +ℤ to_z w64 (of_z w64 z))) ≡ total f (i + 1) 0
      add_is = rw both (to_z-of_z w64 (total f (i + 1) 0) (total_fits (i + 1) (omega arith)))

    -- the sum at the end
    pub sum_read : {sum : ℤ} {i : ℕ} → sum ≡ total f i 0 → i ≡ n → sum ≡ total f n 0
    sum_read e g = rw (← g) e
