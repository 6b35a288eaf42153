-- One-line proofs over ℤ. A statement on any integers is read as one on expressions (`reading`, `linear`), its two sides are brought to
-- normal form, and what is left is linear in the parts of the monomials, which `omega` decides:
--   trans : (a b c : ℤ) → a ≤ℤ b → b ≤ℤ c → a ≤ℤ c
--   trans = over 3 _ (λ ρ. simp linear (omega arith))
--   square : (a b : ℤ) → (a +ℤ b) *ℤ (a +ℤ b) ≡ a *ℤ a +ℤ pos 2 *ℤ (a *ℤ b) +ℤ b *ℤ b
--   square = over 2 _ (λ ρ. simp (reading, read_pos, ρ) (ring _ _ _ tt))
-- Each argument of a law that is used so is a variable; hypotheses are arrows of its statement, or go in by `also` (Order).
use mathlib.Core.Path.{◌≡◌, refl, sym, ap, ap₂, ◌∙◌, subst}
use mathlib.Core.Logic.{◌↔◌}
use mathlib.Core.List.{List, [], ◌∷◌, ◌++◌, append_assoc}
use Prim.Native.Nat.{ℕ, zero, suc, ◌+◌, ◌*◌, ◌≤◌, ◌<◌}
use native.Mathlib.Omega.{arith}
use native.Mathlib.Nat.{zero-add}
use lib.ListN.{length}
use lib.IntN.{ℤ, pos, negsuc, neg_ℤ, ◌+ℤ◌, ◌-ℤ◌, ◌*ℤ◌, *ℤ-one}
use lib.Signed.{◌≤ℤ◌, ◌<ℤ◌}
use Rattle.integer.proofs.Ring.{neg-*ℤ}
use Rattle.integer.proofs.Difference.{diff, diff_of, diff_add, diff_neg, pos_mul, differences, plus_part, minus_part}
use Rattle.integer.proofs.Polynomial.{Expr, unknown, natural, negative, ◌⊕◌, ◌⊖◌, ◌⊗◌, minus, Values, nth, value, Poly, nil, term, normal, mono_value, poly_value, normal_value}

-- ---- reading an equation by `simp`: an unknown is `get ρ i`, and the rules gather the terms over it
pub get : Values → ℕ → ℤ
get ρ i = nth ρ i

pub read_unknown : (ρ : Values) (i : ℕ) → get ρ i ≡ value ρ (unknown i)
unfolding get value
read_unknown ρ i = refl

pub read_pos : (ρ : Values) (k : ℕ) → pos k ≡ value ρ (natural k)
unfolding value
read_pos ρ k = refl

pub read_negsuc : (ρ : Values) (k : ℕ) → negsuc k ≡ value ρ (negative k)
unfolding value
read_negsuc ρ k = refl

pub read_add : (ρ : Values) (a b : Expr) → value ρ a +ℤ value ρ b ≡ value ρ (a ⊕ b)
unfolding value
read_add ρ a b = refl

pub read_mul : (ρ : Values) (a b : Expr) → value ρ a *ℤ value ρ b ≡ value ρ (a ⊗ b)
unfolding value
read_mul ρ a b = refl

pub read_neg : (ρ : Values) (a : Expr) → neg_ℤ (value ρ a) ≡ value ρ (minus a)
unfolding value
read_neg ρ a = refl

-- ---- a statement on the values of two expressions, as one on naturals that is linear in the parts of the monomials
pub mono : Values → List ℕ → ℤ
mono ρ m = mono_value ρ m

abbrev pub plus_side : Values → Poly → ℕ
plus_side ρ nil = 0
plus_side ρ (term (pos k) [] p) = k + plus_side ρ p
plus_side ρ (term (negsuc k) [] p) = plus_side ρ p
plus_side ρ (term (pos k) (i ∷ m) p) = k * plus_part (mono ρ (i ∷ m)) + plus_side ρ p
plus_side ρ (term (negsuc k) (i ∷ m) p) = suc k * minus_part (mono ρ (i ∷ m)) + plus_side ρ p

abbrev pub minus_side : Values → Poly → ℕ
minus_side ρ nil = 0
minus_side ρ (term (pos k) [] p) = minus_side ρ p
minus_side ρ (term (negsuc k) [] p) = suc k + minus_side ρ p
minus_side ρ (term (pos k) (i ∷ m) p) = k * minus_part (mono ρ (i ∷ m)) + minus_side ρ p
minus_side ρ (term (negsuc k) (i ∷ m) p) = suc k * plus_part (mono ρ (i ∷ m)) + minus_side ρ p

module _ (ρ : Values) where
  pos_part : (k : ℕ) (m : List ℕ) → pos k *ℤ mono_value ρ m ≡ diff (k * plus_part (mono ρ m)) (k * minus_part (mono ρ m))
  unfolding mono
  pos_part k m = ap (λ (z : ℤ). pos k *ℤ z) (diff_of (mono_value ρ m)) ∙ pos_mul k (plus_part (mono_value ρ m)) (minus_part (mono_value ρ m))

  neg_part : (k : ℕ) (m : List ℕ) → negsuc k *ℤ mono_value ρ m ≡ diff (suc k * minus_part (mono ρ m)) (suc k * plus_part (mono ρ m))
  neg_part k m = neg-*ℤ (pos (suc k)) (mono_value ρ m) ∙ ap neg_ℤ (pos_part (suc k) m) ∙ diff_neg _ _

  more : (x : ℤ) (a b c d : ℕ) (y : ℤ) → x ≡ diff a b → y ≡ diff c d → x +ℤ y ≡ diff (a + c) (b + d)
  more x a b c d y e f = ap₂ ◌+ℤ◌ e f ∙ diff_add a b c d

  as_diff : (p : Poly) → poly_value ρ p ≡ diff (plus_side ρ p) (minus_side ρ p)
  as_diff nil = diff_of (pos 0)
  as_diff (term (pos k) [] p) = more _ k 0 _ _ _ (*ℤ-one (pos k) ∙ diff_of (pos k)) (as_diff p) ∙ ap (λ (n : ℕ). diff (k + plus_side ρ p) n) (zero-add (minus_side ρ p))
  as_diff (term (negsuc k) [] p) = more _ 0 (suc k) _ _ _ (*ℤ-one (negsuc k) ∙ diff_of (negsuc k)) (as_diff p) ∙ ap (λ (n : ℕ). diff n (suc k + minus_side ρ p)) (zero-add (plus_side ρ p))
  as_diff (term (pos k) (i ∷ m) p) = more _ _ _ _ _ _ (pos_part k (i ∷ m)) (as_diff p)
  as_diff (term (negsuc k) (i ∷ m) p) = more _ _ _ _ _ _ (neg_part k (i ∷ m)) (as_diff p)

  at : (e : Expr) → value ρ e ≡ diff (plus_side ρ (normal e)) (minus_side ρ (normal e))
  at e = normal_value ρ e ∙ as_diff (normal e)

-- f − e, as it is over the naturals: computed once, and what stands on both sides of the statement is gone
abbrev pub Above : Values → Poly → Type 0
Above ρ p = minus_side ρ p ≤ plus_side ρ p

abbrev pub StrictlyAbove : Values → Poly → Type 0
StrictlyAbove ρ p = minus_side ρ p < plus_side ρ p

abbrev pub Level : Values → Poly → Type 0
Level ρ p = minus_side ρ p ≡ plus_side ρ p

le_diff : (a b : ℤ) (p n : ℕ) → b -ℤ a ≡ diff p n → (a ≤ℤ b) ↔ (n ≤ p)
le_diff a b p n = rw (diff_of a, diff_of b) (simp differences (λ e. ((λ h. omega arith), (λ h. omega arith))))

lt_diff : (a b : ℤ) (p n : ℕ) → b -ℤ a ≡ diff p n → (a <ℤ b) ↔ (n < p)
lt_diff a b p n = rw (diff_of a, diff_of b) (simp differences (λ e. ((λ h. omega arith), (λ h. omega arith))))

eq_diff : (a b : ℤ) (p n : ℕ) → b -ℤ a ≡ diff p n → (a ≡ b) ↔ (n ≡ p)
eq_diff a b p n = rw (diff_of a, diff_of b) (simp differences (λ e. ((λ h. omega arith), (λ h. omega arith))))

pub read_le : (ρ : Values) (e f : Expr) → (value ρ e ≤ℤ value ρ f) ↔ Above ρ (normal (f ⊖ e))
unfolding value
read_le ρ e f = le_diff (value ρ e) (value ρ f) (plus_side ρ (normal (f ⊖ e))) (minus_side ρ (normal (f ⊖ e))) (at ρ (f ⊖ e))

pub read_lt : (ρ : Values) (e f : Expr) → (value ρ e <ℤ value ρ f) ↔ StrictlyAbove ρ (normal (f ⊖ e))
unfolding value
read_lt ρ e f = lt_diff (value ρ e) (value ρ f) (plus_side ρ (normal (f ⊖ e))) (minus_side ρ (normal (f ⊖ e))) (at ρ (f ⊖ e))

pub read_eq : (ρ : Values) (e f : Expr) → (value ρ e ≡ value ρ f) ↔ Level ρ (normal (f ⊖ e))
unfolding value
read_eq ρ e f = eq_diff (value ρ e) (value ρ f) (plus_side ρ (normal (f ⊖ e))) (minus_side ρ (normal (f ⊖ e))) (at ρ (f ⊖ e))

abbrev pub IsNil : Poly → Type 0
IsNil nil = Unit {0}
IsNil (term c m p) = ⊥

level_nil : (ρ : Values) (p : Poly) → IsNil p → Level ρ p
level_nil ρ nil t = refl
level_nil ρ (term c m p) t = absurd t

-- two expressions whose difference comes to nothing
pub ring : (ρ : Values) (e f : Expr) → IsNil (normal (f ⊖ e)) → value ρ e ≡ value ρ f
ring ρ e f t = (read_eq ρ e f).1 (level_nil ρ (normal (f ⊖ e)) t)

pub ruleset reading = (read_unknown, read_add, read_mul, read_neg, read_pos, read_negsuc)

pub ruleset linear = (reading, read_le, read_lt, read_eq)

-- ---- a law on any n integers, from the same law on the unknowns 0, 1, .., n − 1 under every choice of values
abbrev pub Curried : ℕ → Type 1
Curried zero = Type 0
Curried (suc n) = ℤ → Curried n

abbrev pub All : (n : ℕ) → Curried n → Type 0
All zero P = P
All (suc n) P = (a : ℤ) → All n (P a)

abbrev pub At : (n : ℕ) → Curried n → Values → ℕ → Type 0
At zero P ρ i = P
At (suc n) P ρ i = At n (P (get ρ i)) ρ (suc i)

get_next : (ρ : Values) (a : ℤ) (σ : Values) → get (ρ ++ (a ∷ σ)) (length ρ) ≡ a
unfolding get
get_next [] a σ = refl
get_next (x ∷ ρ) a σ = get_next ρ a σ

length_next : (ρ : Values) (a : ℤ) → length (ρ ++ (a ∷ [])) ≡ suc (length ρ)
length_next [] a = refl
length_next (x ∷ ρ) a = ap suc (length_next ρ a)

over_from : (n : ℕ) (P : Curried n) (ρ : Values) → ((σ : Values) → At n P (ρ ++ σ) (length ρ)) → All n P
over_from zero P ρ F = F []
over_from (suc n) P ρ F = λ a. over_from n (P a) (ρ ++ (a ∷ [])) (λ σ.
    subst (λ (i : ℕ). At n (P a) ((ρ ++ (a ∷ [])) ++ σ) i) (sym (length_next ρ a))
    (subst (λ (τ : Values). At n (P a) τ (suc (length ρ))) (sym (append_assoc ρ (a ∷ []) σ))
    (subst (λ (z : ℤ). At n (P z) (ρ ++ (a ∷ σ)) (suc (length ρ))) (get_next ρ a σ) (F (a ∷ σ)))))

pub over : (n : ℕ) (P : Curried n) → ((ρ : Values) → At n P ρ 0) → All n P
over n P F = over_from n P [] F
