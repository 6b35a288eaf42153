-- An integer as a difference of two naturals, `D p n` is p − n: each statement on ℤ becomes one on ℕ, which `omega` reads.
use mathlib.Core.Path.{◌≡◌, sym, ap, ap₂, ◌∙◌}
use mathlib.Core.Logic.{◌↔◌}
use mathlib.Core.Bool.{Bool, true, false, cond, not}
use Prim.Native.Nat.{ℕ, zero, suc, ◌+◌, ◌*◌, ◌-◌, ◌≤◌, ◌<◌}
use native.Mathlib.Omega.{arith}
use lib.Dec.{T, ltb, leb→le, le→leb, ltb→lt, lt→ltb, nltb→le}
use lib.IntN.{ℤ, pos, negsuc, neg_ℤ, ◌+ℤ◌, ◌-ℤ◌, ◌*ℤ◌, +ℤ_idl, +ℤ_idr, +ℤ_assoc, +ℤ_comm, neg_ℤ-+ℤ, neg_ℤ-neg_ℤ}
use lib.Signed.{◌≤ℤ◌, ◌<ℤ◌, lt_z, le_z}
use Rattle.integer.proofs.Ring.{+ℤ-left-comm, *ℤ-distr, *ℤ-distl, neg-*ℤ, *ℤ-neg}

pub diff : ℕ → ℕ → ℤ
diff p n = pos p -ℤ pos n

-- the two parts
abbrev pub plus_part : ℤ → ℕ
plus_part (pos n) = n
plus_part (negsuc n) = 0

abbrev pub minus_part : ℤ → ℕ
minus_part (pos n) = 0
minus_part (negsuc n) = suc n

pub diff_of : (z : ℤ) → z ≡ diff (plus_part z) (minus_part z)
unfolding diff
diff_of (pos n) = sym (+ℤ_idr (pos n))
diff_of (negsuc n) = sym (+ℤ_idl (negsuc n))

swap4 : (a b c d : ℤ) → (a +ℤ b) +ℤ (c +ℤ d) ≡ (a +ℤ c) +ℤ (b +ℤ d)
swap4 a b c d = +ℤ_assoc a b (c +ℤ d) ∙ ap (λ (x : ℤ). a +ℤ x) (+ℤ-left-comm b c d) ∙ sym (+ℤ_assoc a c (b +ℤ d))

pub diff_add : (p n q m : ℕ) → diff p n +ℤ diff q m ≡ diff (p + q) (n + m)
unfolding diff
diff_add p n q m = swap4 (pos p) (neg_ℤ (pos n)) (pos q) (neg_ℤ (pos m)) ∙ ap (λ (x : ℤ). pos (p + q) +ℤ x) (sym (neg_ℤ-+ℤ (pos n) (pos m)))

pub diff_neg : (p n : ℕ) → neg_ℤ (diff p n) ≡ diff n p
unfolding diff
diff_neg p n = neg_ℤ-+ℤ (pos p) (neg_ℤ (pos n)) ∙ ap (λ (x : ℤ). neg_ℤ (pos p) +ℤ x) (neg_ℤ-neg_ℤ (pos n)) ∙ +ℤ_comm (neg_ℤ (pos p)) (pos n)

pub pos_mul : (k q m : ℕ) → pos k *ℤ diff q m ≡ diff (k * q) (k * m)
unfolding diff
pos_mul k q m = *ℤ-distl (pos k) (pos q) (neg_ℤ (pos m)) ∙ ap (λ (x : ℤ). pos (k * q) +ℤ x) (*ℤ-neg (pos k) (pos m))

split_mul : (p n : ℕ) (x : ℤ) → diff p n *ℤ x ≡ pos p *ℤ x +ℤ neg_ℤ (pos n *ℤ x)
unfolding diff
split_mul p n x = *ℤ-distr (pos p) (neg_ℤ (pos n)) x ∙ ap (λ (y : ℤ). pos p *ℤ x +ℤ y) (neg-*ℤ (pos n) x)

pub diff_mul : (p n q m : ℕ) → diff p n *ℤ diff q m ≡ diff (p * q + n * m) (p * m + n * q)
diff_mul p n q m =
    split_mul p n (diff q m) ∙ ap₂ (λ (x y : ℤ). x +ℤ neg_ℤ y) (pos_mul p q m) (pos_mul n q m) ∙ ap (λ (x : ℤ). diff (p * q) (p * m) +ℤ x) (diff_neg (n * q) (n * m)) ∙ diff_add (p * q) (p * m) (n * m) (n * q)

pub diff_pos : (k : ℕ) → pos k ≡ diff k 0
diff_pos k = diff_of (pos k)

pub diff_negsuc : (k : ℕ) → negsuc k ≡ diff 0 (suc k)
diff_negsuc k = diff_of (negsuc k)

pub diff_negpos : (k : ℕ) → neg_ℤ (pos k) ≡ diff 0 k
diff_negpos k = ap neg_ℤ (diff_of (pos k)) ∙ diff_neg k 0

-- ---- the order, by the parts
le_in : (a b : ℤ) → T (le_z a b) → plus_part a + minus_part b ≤ plus_part b + minus_part a
le_in (pos a) (pos b) t = let h = leb→le a b t in omega arith
le_in (pos a) (negsuc b) t = absurd t
le_in (negsuc a) (pos b) t = omega arith
le_in (negsuc a) (negsuc b) t = let h = leb→le b a t in omega arith

le_out : (a b : ℤ) → plus_part a + minus_part b ≤ plus_part b + minus_part a → T (le_z a b)
le_out (pos a) (pos b) t = le→leb a b (omega arith)
le_out (pos a) (negsuc b) t = omega arith
le_out (negsuc a) (pos b) t = tt
le_out (negsuc a) (negsuc b) t = le→leb b a (omega arith)

lt_in : (a b : ℤ) → T (lt_z a b) → plus_part a + minus_part b < plus_part b + minus_part a
lt_in (pos a) (pos b) t = let h = ltb→lt a b t in omega arith
lt_in (pos a) (negsuc b) t = absurd t
lt_in (negsuc a) (pos b) t = omega arith
lt_in (negsuc a) (negsuc b) t = let h = ltb→lt b a t in omega arith

lt_out : (a b : ℤ) → plus_part a + minus_part b < plus_part b + minus_part a → T (lt_z a b)
lt_out (pos a) (pos b) t = lt→ltb a b (omega arith)
lt_out (pos a) (negsuc b) t = omega arith
lt_out (negsuc a) (pos b) t = tt
lt_out (negsuc a) (negsuc b) t = lt→ltb b a (omega arith)

cond_ind : (c : Bool) (x y : ℤ) (Q : ℤ → Type 0) → (T c → Q x) → (T (not c) → Q y) → Q (cond c x y)
cond_ind true x y Q f g = f tt
cond_ind false x y Q f g = g tt

-- the parts of a difference
pub diff_parts : (p n : ℕ) → plus_part (diff p n) + n ≡ p + minus_part (diff p n)
unfolding diff
diff_parts p zero = omega arith
diff_parts p (suc n) = cond_ind (ltb p (suc n)) (negsuc (suc n - suc p)) (pos (p - suc n)) (λ (z : ℤ). plus_part z + suc n ≡ p + minus_part z)
    (λ t. below p n (ltb→lt p (suc n) t)) (λ t. above p n (nltb→le p (suc n) t))
  where
    below : (p n : ℕ) → p < suc n → 0 + suc n ≡ p + suc (suc n - suc p)
    below p n h = omega arith

    above : (p n : ℕ) → suc n ≤ p → (p - suc n) + suc n ≡ p + 0
    above p n h = omega arith

pub diff_le : (p n q m : ℕ) → (diff p n ≤ℤ diff q m) ↔ (p + m ≤ q + n)
diff_le p n q m = ((λ h. let k = le_in (diff p n) (diff q m) h.le in omega (arith, diff_parts p n, diff_parts q m)), (λ h. record { le = le_out (diff p n) (diff q m) (omega (arith, diff_parts p n, diff_parts q m)) }))

pub diff_lt : (p n q m : ℕ) → (diff p n <ℤ diff q m) ↔ (p + m < q + n)
diff_lt p n q m = ((λ h. let k = lt_in (diff p n) (diff q m) h.lt in omega (arith, diff_parts p n, diff_parts q m)), (λ h. record { lt = lt_out (diff p n) (diff q m) (omega (arith, diff_parts p n, diff_parts q m)) }))

-- equal differences
same_parts : (a b : ℤ) → plus_part a + minus_part b ≡ plus_part b + minus_part a → a ≡ b
same_parts (pos a) (pos b) e = ap pos (omega arith)
same_parts (pos a) (negsuc b) e = absurd (omega arith)
same_parts (negsuc a) (pos b) e = absurd (omega arith)
same_parts (negsuc a) (negsuc b) e = ap negsuc (omega arith)

pub diff_eq : (p n q m : ℕ) → (diff p n ≡ diff q m) ↔ (p + m ≡ q + n)
diff_eq p n q m = ((λ h. let u = ap plus_part h in let v = ap minus_part h in omega (arith, diff_parts p n, diff_parts q m)), (λ h. same_parts (diff p n) (diff q m) (omega (arith, diff_parts p n, diff_parts q m))))

pub ruleset differences = (diff_add, diff_neg, diff_mul, diff_pos, diff_negpos, diff_negsuc, diff_le, diff_lt, diff_eq)
