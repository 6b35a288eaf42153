-- A normal form of polynomials over ℤ that computes: an expression and its normal form have one value (`normal_value`).
-- `Expr` is an expression over numbered unknowns, `Values` says what each unknown is, `value ρ e` is its value, `normal e` its normal form.
use mathlib.Core.Path.{◌≡◌, refl, sym, ap, ap₂, ◌∙◌, subst}
use mathlib.Core.Bool.{Bool, true, false}
use mathlib.Core.List.{List, [], ◌∷◌}
use Prim.Native.Nat.{ℕ, zero, suc, compare, Ordering}
use lib.Dec.{T, leb, compare_is_eq, eqb→eq}
use lib.IntN.{ℤ, pos, negsuc, neg_ℤ, one, ◌+ℤ◌, ◌-ℤ◌, ◌*ℤ◌, +ℤ_idl, +ℤ_idr, +ℤ_assoc, *ℤ_comm, *ℤ-one, zero-*ℤ, *ℤ-zero}
use Rattle.integer.proofs.Ring.{+ℤ-left-comm, *ℤ-distr, *ℤ-distl, *ℤ-assoc, neg-*ℤ}

infixl 6 ◌⊕◌ ◌⊖◌
infixl 7 ◌⊗◌
pub data Expr : Type 0 where
  unknown : ℕ → Expr
  natural : ℕ → Expr
  negative : ℕ → Expr
  ◌⊕◌ : Expr → Expr → Expr
  ◌⊖◌ : Expr → Expr → Expr
  ◌⊗◌ : Expr → Expr → Expr
  minus : Expr → Expr

abbrev pub Values : Type 0
Values = List ℤ

abbrev pub nth : Values → ℕ → ℤ
nth [] i = pos 0
nth (x ∷ ρ) zero = x
nth (x ∷ ρ) (suc i) = nth ρ i

unfoldable pub value : Values → Expr → ℤ
value ρ (unknown i) = nth ρ i
value ρ (natural k) = pos k
value ρ (negative k) = negsuc k
value ρ (a ⊕ b) = value ρ a +ℤ value ρ b
value ρ (a ⊖ b) = value ρ a -ℤ value ρ b
value ρ (a ⊗ b) = value ρ a *ℤ value ρ b
value ρ (minus a) = neg_ℤ (value ρ a)

-- ---- monomials: sorted lists of unknowns; polynomials: lists of a coefficient and a monomial
abbrev insert : ℕ → List ℕ → List ℕ
insert i [] = i ∷ []
insert i (j ∷ m) = elim (leb i j) [ true ↦ i ∷ j ∷ m | false ↦ j ∷ insert i m ]

abbrev mono_mul : List ℕ → List ℕ → List ℕ
mono_mul [] n = n
mono_mul (i ∷ m) n = insert i (mono_mul m n)

abbrev mono_compare : List ℕ → List ℕ → Ordering
mono_compare [] [] = Ordering.eq
mono_compare [] (j ∷ n) = Ordering.lt
mono_compare (i ∷ m) [] = Ordering.gt
mono_compare (i ∷ m) (j ∷ n) = elim (compare i j) [ Ordering.lt ↦ Ordering.lt | Ordering.eq ↦ mono_compare m n | Ordering.gt ↦ Ordering.gt ]

pub data Poly : Type 0 where
  nil : Poly
  term : ℤ → List ℕ → Poly → Poly

abbrev cons : ℤ → List ℕ → Poly → Poly
cons (pos zero) m p = p
cons (pos (suc n)) m p = term (pos (suc n)) m p
cons (negsuc n) m p = term (negsuc n) m p

abbrev add_term : ℤ → List ℕ → Poly → Poly
add_term c m nil = cons c m nil
add_term c m (term d n p) = elim (mono_compare m n) [ Ordering.lt ↦ cons c m (term d n p) | Ordering.eq ↦ cons (c +ℤ d) m p | Ordering.gt ↦ term d n (add_term c m p) ]

abbrev add : Poly → Poly → Poly
add nil q = q
add (term c m p) q = add_term c m (add p q)

abbrev scale_by : ℤ → List ℕ → Poly → Poly
scale_by c m nil = nil
scale_by c m (term d n p) = add_term (c *ℤ d) (mono_mul m n) (scale_by c m p)

abbrev multiply : Poly → Poly → Poly
multiply nil q = nil
multiply (term c m p) q = add (scale_by c m q) (multiply p q)

abbrev pub normal : Expr → Poly
normal (unknown i) = term (pos 1) (i ∷ []) nil
normal (natural k) = cons (pos k) [] nil
normal (negative k) = cons (negsuc k) [] nil
normal (a ⊕ b) = add (normal a) (normal b)
normal (a ⊖ b) = add (normal a) (scale_by (negsuc 0) [] (normal b))
normal (a ⊗ b) = multiply (normal a) (normal b)
normal (minus a) = scale_by (negsuc 0) [] (normal a)

-- ---- values
abbrev pub mono_value : Values → List ℕ → ℤ
mono_value ρ [] = one
mono_value ρ (i ∷ m) = nth ρ i *ℤ mono_value ρ m

abbrev pub poly_value : Values → Poly → ℤ
poly_value ρ nil = pos 0
poly_value ρ (term c m p) = c *ℤ mono_value ρ m +ℤ poly_value ρ p

*-left-comm : (a b c : ℤ) → a *ℤ (b *ℤ c) ≡ b *ℤ (a *ℤ c)
*-left-comm a b c = sym (*ℤ-assoc a b c) ∙ ap (λ (x : ℤ). x *ℤ c) (*ℤ_comm a b) ∙ *ℤ-assoc b a c

one-* : (a : ℤ) → one *ℤ a ≡ a
one-* a = *ℤ_comm one a ∙ *ℤ-one a

compare_eq : (i j : ℕ) → compare i j ≡ Ordering.eq → i ≡ j
compare_eq i j e = eqb→eq i j (subst (λ (o : Ordering). T (compare_is_eq o)) (sym e) tt)

IsEqual : Ordering → Type 0
IsEqual Ordering.lt = ⊥
IsEqual Ordering.eq = Unit {0}
IsEqual Ordering.gt = ⊥

never : {X : Type 0} (o : Ordering) → o ≡ Ordering.eq → (IsEqual o → X) → X
unfolding IsEqual
never o e f = f (subst IsEqual (sym e) tt)

mono_compare_eq : (m n : List ℕ) → mono_compare m n ≡ Ordering.eq → m ≡ n
unfolding IsEqual
mono_compare_eq [] [] e = refl
mono_compare_eq [] (j ∷ n) e = never Ordering.lt e (λ f. absurd f)
mono_compare_eq (i ∷ m) [] e = never Ordering.gt e (λ f. absurd f)
mono_compare_eq (i ∷ m) (j ∷ n) e = go (compare i j) refl (mono_compare_eq m n) e
  where
    go : (o : Ordering) → compare i j ≡ o → (mono_compare m n ≡ Ordering.eq → m ≡ n) → elim o as (λ x. Ordering) [ Ordering.lt ↦ Ordering.lt | Ordering.eq ↦ mono_compare m n | Ordering.gt ↦ Ordering.gt ] ≡ Ordering.eq → i ∷ m ≡ j ∷ n
    go Ordering.lt q g u = never Ordering.lt u (λ f. absurd f)
    go Ordering.eq q g u = ap₂ ◌∷◌ (compare_eq i j q) (g u)
    go Ordering.gt q g u = never Ordering.gt u (λ f. absurd f)

module _ (ρ : Values) where
  insert_value : (i : ℕ) (m : List ℕ) → mono_value ρ (insert i m) ≡ nth ρ i *ℤ mono_value ρ m
  insert_value i [] = refl
  insert_value i (j ∷ m) = go (leb i j) (insert_value i m)
    where
      go : (t : Bool) → mono_value ρ (insert i m) ≡ nth ρ i *ℤ mono_value ρ m → mono_value ρ (elim t as (λ x. List ℕ) [ true ↦ i ∷ j ∷ m | false ↦ j ∷ insert i m ]) ≡ nth ρ i *ℤ (nth ρ j *ℤ mono_value ρ m)
      go true h = refl
      go false h = ap (λ (x : ℤ). nth ρ j *ℤ x) h ∙ *-left-comm (nth ρ j) (nth ρ i) (mono_value ρ m)

  mono_mul_value : (m n : List ℕ) → mono_value ρ (mono_mul m n) ≡ mono_value ρ m *ℤ mono_value ρ n
  mono_mul_value [] n = sym (one-* (mono_value ρ n))
  mono_mul_value (i ∷ m) n = insert_value i (mono_mul m n) ∙ ap (λ (x : ℤ). nth ρ i *ℤ x) (mono_mul_value m n) ∙ sym (*ℤ-assoc (nth ρ i) (mono_value ρ m) (mono_value ρ n))

  cons_value : (c : ℤ) (m : List ℕ) (p : Poly) → poly_value ρ (cons c m p) ≡ c *ℤ mono_value ρ m +ℤ poly_value ρ p
  cons_value (pos zero) m p = sym (ap (λ (x : ℤ). x +ℤ poly_value ρ p) (zero-*ℤ (mono_value ρ m)) ∙ +ℤ_idl (poly_value ρ p))
  cons_value (pos (suc n)) m p = refl
  cons_value (negsuc n) m p = refl

  add_term_value : (c : ℤ) (m : List ℕ) (p : Poly) → poly_value ρ (add_term c m p) ≡ c *ℤ mono_value ρ m +ℤ poly_value ρ p
  add_term_value c m nil = cons_value c m nil
  add_term_value c m (term d n p) = go (mono_compare m n) refl (add_term_value c m p)
    where
      go : (o : Ordering) → mono_compare m n ≡ o → poly_value ρ (add_term c m p) ≡ c *ℤ mono_value ρ m +ℤ poly_value ρ p → poly_value ρ (elim o as (λ x. Poly) [ Ordering.lt ↦ cons c m (term d n p) | Ordering.eq ↦ cons (c +ℤ d) m p | Ordering.gt ↦ term d n (add_term c m p) ]) ≡ c *ℤ mono_value ρ m +ℤ (d *ℤ mono_value ρ n +ℤ poly_value ρ p)
      go Ordering.lt q h = cons_value c m (term d n p)
      go Ordering.eq q h = cons_value (c +ℤ d) m p ∙ ap (λ (x : ℤ). x +ℤ poly_value ρ p) (*ℤ-distr c d (mono_value ρ m)) ∙ +ℤ_assoc (c *ℤ mono_value ρ m) (d *ℤ mono_value ρ m) (poly_value ρ p) ∙ ap (λ (l : List ℕ). c *ℤ mono_value ρ m +ℤ (d *ℤ mono_value ρ l +ℤ poly_value ρ p)) (mono_compare_eq m n q)
      go Ordering.gt q h = ap (λ (x : ℤ). d *ℤ mono_value ρ n +ℤ x) h ∙ +ℤ-left-comm (d *ℤ mono_value ρ n) (c *ℤ mono_value ρ m) (poly_value ρ p)

  add_value : (p q : Poly) → poly_value ρ (add p q) ≡ poly_value ρ p +ℤ poly_value ρ q
  add_value nil q = sym (+ℤ_idl (poly_value ρ q))
  add_value (term c m p) q = add_term_value c m (add p q) ∙ ap (λ (x : ℤ). c *ℤ mono_value ρ m +ℤ x) (add_value p q) ∙ sym (+ℤ_assoc (c *ℤ mono_value ρ m) (poly_value ρ p) (poly_value ρ q))

  four : (c d : ℤ) (m n : ℤ) → (c *ℤ d) *ℤ (m *ℤ n) ≡ (c *ℤ m) *ℤ (d *ℤ n)
  four c d m n = *ℤ-assoc c d (m *ℤ n) ∙ ap (λ (x : ℤ). c *ℤ x) (*-left-comm d m n) ∙ sym (*ℤ-assoc c m (d *ℤ n))

  scale_by_value : (c : ℤ) (m : List ℕ) (p : Poly) → poly_value ρ (scale_by c m p) ≡ (c *ℤ mono_value ρ m) *ℤ poly_value ρ p
  scale_by_value c m nil = sym (*ℤ-zero (c *ℤ mono_value ρ m))
  scale_by_value c m (term d n p) =
      add_term_value (c *ℤ d) (mono_mul m n) (scale_by c m p) ∙ ap₂ (λ (x y : ℤ). (c *ℤ d) *ℤ x +ℤ y) (mono_mul_value m n) (scale_by_value c m p) ∙ ap (λ (x : ℤ). x +ℤ (c *ℤ mono_value ρ m) *ℤ poly_value ρ p) (four c d (mono_value ρ m) (mono_value ρ n)) ∙ sym (*ℤ-distl (c *ℤ mono_value ρ m) (d *ℤ mono_value ρ n) (poly_value ρ p))

  multiply_value : (p q : Poly) → poly_value ρ (multiply p q) ≡ poly_value ρ p *ℤ poly_value ρ q
  multiply_value nil q = sym (zero-*ℤ (poly_value ρ q))
  multiply_value (term c m p) q = add_value (scale_by c m q) (multiply p q) ∙ ap₂ ◌+ℤ◌ (scale_by_value c m q) (multiply_value p q) ∙ sym (*ℤ-distr (c *ℤ mono_value ρ m) (poly_value ρ p) (poly_value ρ q))

  minus_value : (p : Poly) → poly_value ρ (scale_by (negsuc 0) [] p) ≡ neg_ℤ (poly_value ρ p)
  unfolding one
  minus_value p = scale_by_value (negsuc 0) [] p ∙ neg-*ℤ one (poly_value ρ p) ∙ ap neg_ℤ (one-* (poly_value ρ p))

  pub normal_value : (e : Expr) → value ρ e ≡ poly_value ρ (normal e)
  unfolding value one
  normal_value (unknown i) = sym (+ℤ_idr (one *ℤ (nth ρ i *ℤ one)) ∙ one-* (nth ρ i *ℤ one) ∙ *ℤ-one (nth ρ i))
  normal_value (natural k) = sym (cons_value (pos k) [] nil ∙ +ℤ_idr (pos k *ℤ one) ∙ *ℤ-one (pos k))
  normal_value (negative k) = sym (cons_value (negsuc k) [] nil ∙ +ℤ_idr (negsuc k *ℤ one) ∙ *ℤ-one (negsuc k))
  normal_value (a ⊕ b) = ap₂ ◌+ℤ◌ (normal_value a) (normal_value b) ∙ sym (add_value (normal a) (normal b))
  normal_value (a ⊖ b) = ap₂ ◌-ℤ◌ (normal_value a) (normal_value b) ∙ ap (λ (x : ℤ). poly_value ρ (normal a) +ℤ x) (sym (minus_value (normal b))) ∙ sym (add_value (normal a) (scale_by (negsuc 0) [] (normal b)))
  normal_value (a ⊗ b) = ap₂ ◌*ℤ◌ (normal_value a) (normal_value b) ∙ sym (multiply_value (normal a) (normal b))
  normal_value (minus a) = ap neg_ℤ (normal_value a) ∙ sym (minus_value (normal a))
