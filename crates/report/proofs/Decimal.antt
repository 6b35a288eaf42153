-- The digits of a number.
use mathlib.Core.Path.{◌≡◌, refl, ap, ◌∙◌}
use mathlib.Core.Bool.{Bool, true, false, cond}
use mathlib.Core.List.{[], ◌∷◌, ◌++◌}
use Prim.Native.Nat.{ℕ, zero, suc, ◌/◌, ◌%◌, ◌^◌, ◌≤◌, ◌<◌}
use native.Mathlib.Omega.{arith}
use native.Mathlib.Nat.{pow-suc}
use borrow.Author.Tests.{lt-ltb, ltb-true, ltb-false}
use lib.Dec.{ltb}
use lib.IntN.{ℤ, pos, negsuc}
use mir.Syntax.{w64}
use mir.Val.{SFits}
use lib.ListN.{length, length-append}
use Rattle.std.specs.Fmt.{decimal, signed_decimal}
use Rattle.std.proofs.lemmas.Fmt.{decimal_digit, decimal_step}
use Rattle.report.specs.Decimal as report
use Rattle.report.specs.Decimal.{digit, digits_within, natural}

-- a number without its last digit
pub tenth : (n k : ℕ) → n < 10 ^ suc k → n / 10 < 10 ^ k
tenth n k h = omega (arith, rw pow-suc at h)

-- ---- how many there are
few_digits : (d k n : ℕ) → n < 10 ^ suc k → length (digits_within d n) ≤ suc k
unfolding digits_within
few_digits zero k n h = omega arith
few_digits (suc d) k n h = go k h (ltb n 10) refl (λ k. few_digits d k (n / 10))
  where
    go : (k : ℕ) → n < 10 ^ suc k → (t : Bool) → ltb n 10 ≡ t → ((k : ℕ) → n / 10 < 10 ^ suc k → length (digits_within d (n / 10)) ≤ suc k) → length (cond t (digit n ∷ []) (digits_within d (n / 10) ++ (digit (n % 10) ∷ []))) ≤ suc k
    go k h true e less = omega arith
    go zero h false e less = absurd (omega (arith, ltb-false n 10 e))
    go (suc k) h false e less = simp length-append (omega (arith, less k (tenth n (suc k) h)))

-- as many as an end of a value of the text may have
pub value_few : (n : ℕ) → n ≤ 9999999999 → length (natural n) ≤ 10
unfolding natural
value_few n h = few_digits 20 9 n (omega arith)

-- ---- they are those that the code prints
same_digits : (d n : ℕ) → n < 10 ^ suc d → n < 2 ^ 64 → decimal n ≡ digits_within (suc d) n
unfolding digits_within
same_digits zero n h w = let l : n < 10 = omega arith in rw (lt-ltb n 10 l) (decimal_digit n l)
same_digits (suc d) n h w = go (ltb n 10) refl (same_digits d (n / 10) (tenth n (suc d) h) (omega arith))
  where
    go : (t : Bool) → ltb n 10 ≡ t → decimal (n / 10) ≡ digits_within (suc d) (n / 10) → decimal n ≡ cond t (digit n ∷ []) (digits_within (suc d) (n / 10) ++ (digit (n % 10) ∷ []))
    go true e less = decimal_digit n (ltb-true n 10 e)
    go false e less = decimal_step n (ltb-false n 10 e) w ∙ ap (λ ds. ds ++ (digit (n % 10) ∷ [])) less

pub spelled : (n : ℕ) → n < 2 ^ 64 → decimal n ≡ natural n
unfolding natural
spelled n h = same_digits 19 n (omega arith) h

pub signed : (z : ℤ) → SFits w64 z → signed_decimal z ≡ report.decimal z
unfolding report.decimal
signed (pos n) h = spelled n (omega (arith, h.sfits))
signed (negsuc n) h = ap (λ s. 45 ∷ s) (spelled (suc n) (omega (arith, h.sfits)))
