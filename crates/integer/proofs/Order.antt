-- The order of ℤ: its two cases, the tests that decide it, products of differences, positive factors.
use mathlib.Core.Path.{◌≡◌, refl, sym, subst}
use mathlib.Core.Logic.{◌⊎◌, inl, inr, ⊎_elim}
use mathlib.Core.Bool.{Bool, true, false, not}
use Prim.Native.Nat.{◌*◌, zero-le}
use native.Mathlib.Omega.{arith}
use lib.Dec.{T, le→leb}
use lib.IntN.{ℤ, pos, negsuc, neg_ℤ, ◌+ℤ◌, ◌-ℤ◌, ◌*ℤ◌, *ℤ_comm}
use lib.Signed.{◌≤ℤ◌, ◌<ℤ◌, lt_z, le_z, le_z_yes, lt_z_yes, lt_z_no, clash_ℤ}
use Rattle.integer.proofs.Linear.{linear, over}

-- a fact handed to a goal, so that `simp` reads the two together
pub also {ℓ κ} : {A : Type ℓ} {B : Type κ} → A → (A → B) → B
also a f = f a

-- ---- the two cases of an order, and the test that code makes
decide : (b : Bool) → T b ⊎ T (not b)
decide true = inl tt
decide false = inr tt

pub lt_or_ge : (a b : ℤ) → (a <ℤ b) ⊎ (b ≤ℤ a)
lt_or_ge a b = ⊎_elim (λ t. inl (lt_z_yes t)) (λ t. inr (lt_z_no t)) (decide (lt_z a b))

pub taken : (a b : ℤ) → lt_z a b ≡ true → a <ℤ b
taken a b e = lt_z_yes (subst T (sym e) tt)

pub left : (a b : ℤ) → lt_z a b ≡ false → b ≤ℤ a
left a b e = lt_z_no (subst (λ (b : Bool). T (not b)) (sym e) tt)

T_true : (b : Bool) → T b → b ≡ true
T_true true t = refl
T_true false t = absurd t

pub yes_lt : (a b : ℤ) → a <ℤ b → lt_z a b ≡ true
yes_lt a b h = T_true (lt_z a b) h.lt

pub no_lt : (a b : ℤ) → b ≤ℤ a → lt_z a b ≡ false
no_lt a b h = go (lt_z a b) refl
  where
    go : (t : Bool) → lt_z a b ≡ t → lt_z a b ≡ false
    go true e = clash_ℤ (taken a b e) h
    go false e = e

pub le_taken : (a b : ℤ) → le_z a b ≡ true → a ≤ℤ b
le_taken a b e = le_z_yes (subst T (sym e) tt)

pub le_left : (a b : ℤ) → le_z a b ≡ false → b <ℤ a
le_left a b e = ⊎_elim (λ h. h) (λ (h : a ≤ℤ b). absurd (subst T e h.le)) (lt_or_ge b a)

pub yes_le : (a b : ℤ) → a ≤ℤ b → le_z a b ≡ true
yes_le a b h = T_true (le_z a b) h.le

-- ---- the linear laws that every proof uses
pub trans : {a b c : ℤ} → a ≤ℤ b → b ≤ℤ c → a ≤ℤ c
trans {a} {b} {c} = go a b c
  where
    go : (a b c : ℤ) → a ≤ℤ b → b ≤ℤ c → a ≤ℤ c
    go = over 3 _ (λ ρ. simp linear (omega arith))

pub le_lt_trans : {a b c : ℤ} → a ≤ℤ b → b <ℤ c → a <ℤ c
le_lt_trans {a} {b} {c} = go a b c
  where
    go : (a b c : ℤ) → a ≤ℤ b → b <ℤ c → a <ℤ c
    go = over 3 _ (λ ρ. simp linear (omega arith))

pub antisym : (a b : ℤ) → a ≤ℤ b → b ≤ℤ a → a ≡ b
antisym = over 2 _ (λ ρ. simp linear (omega arith))

pub lt_le : {a b : ℤ} → a <ℤ b → a ≤ℤ b
lt_le {a} {b} = go a b
  where
    go : (a b : ℤ) → a <ℤ b → a ≤ℤ b
    go = over 2 _ (λ ρ. simp linear (omega arith))

pub next : {a b : ℤ} → a <ℤ b → (a +ℤ pos 1) ≤ℤ b
next {a} {b} = go a b
  where
    go : (a b : ℤ) → a <ℤ b → (a +ℤ pos 1) ≤ℤ b
    go = over 2 _ (λ ρ. simp (linear, ρ) (omega arith))

pub turn_le : {a b : ℤ} → a ≤ℤ b → neg_ℤ b ≤ℤ neg_ℤ a
turn_le {a} {b} = go a b
  where
    go : (a b : ℤ) → a ≤ℤ b → neg_ℤ b ≤ℤ neg_ℤ a
    go = over 2 _ (λ ρ. simp linear (omega arith))

pub turn_lt : {a b : ℤ} → a <ℤ b → neg_ℤ b <ℤ neg_ℤ a
turn_lt {a} {b} = go a b
  where
    go : (a b : ℤ) → a <ℤ b → neg_ℤ b <ℤ neg_ℤ a
    go = over 2 _ (λ ρ. simp linear (omega arith))

pub neg_pos : {a : ℤ} → a <ℤ pos 0 → pos 0 <ℤ neg_ℤ a
neg_pos {a} = go a
  where
    go : (a : ℤ) → a <ℤ pos 0 → pos 0 <ℤ neg_ℤ a
    go = over 1 _ (λ ρ. simp (linear, ρ) (omega arith))

-- ---- the one step that is not linear: the product of two differences that are not negative
nonneg_mul : (x y : ℤ) → pos 0 ≤ℤ x → pos 0 ≤ℤ y → pos 0 ≤ℤ (x *ℤ y)
nonneg_mul (pos a) (pos b) h k = record { le = le→leb 0 (a * b) zero-le }
nonneg_mul (pos a) (negsuc b) h k = absurd k.le
nonneg_mul (negsuc a) y h k = absurd h.le

sub_nonneg : (a b : ℤ) → a ≤ℤ b → pos 0 ≤ℤ (b -ℤ a)
sub_nonneg = over 2 _ (λ ρ. simp (linear, ρ) (omega arith))

pub prod : {a b c d : ℤ} → a ≤ℤ b → c ≤ℤ d → pos 0 ≤ℤ ((b -ℤ a) *ℤ (d -ℤ c))
prod {a} {b} {c} {d} h k = nonneg_mul (b -ℤ a) (d -ℤ c) (sub_nonneg a b h) (sub_nonneg c d k)

-- ---- factors
pub mono : (a b c : ℤ) → pos 0 ≤ℤ c → a ≤ℤ b → (a *ℤ c) ≤ℤ (b *ℤ c)
mono = over 3 _ (λ ρ h k. also (prod k h) (simp (linear, ρ) (omega arith)))

pub mono_left : (c a b : ℤ) → pos 0 ≤ℤ c → a ≤ℤ b → (c *ℤ a) ≤ℤ (c *ℤ b)
mono_left = over 3 _ (λ ρ h k. also (prod k h) (simp (linear, ρ) (omega arith)))

-- a factor that is not positive turns the order
pub anti : (a b c : ℤ) → c ≤ℤ pos 0 → a ≤ℤ b → (b *ℤ c) ≤ℤ (a *ℤ c)
anti = over 3 _ (λ ρ h k. also (prod k h) (simp (linear, ρ) (omega arith)))

pub anti_left : (c a b : ℤ) → c ≤ℤ pos 0 → a ≤ℤ b → (c *ℤ b) ≤ℤ (c *ℤ a)
anti_left = over 3 _ (λ ρ h k. also (prod k h) (simp (linear, ρ) (omega arith)))

pub mono_strict : (a b c : ℤ) → pos 0 <ℤ c → a <ℤ b → (a *ℤ c) <ℤ (b *ℤ c)
mono_strict = over 3 _ (λ ρ h k. also (prod (next h) (next k)) (also h (also k (simp (linear, ρ) (omega arith)))))

-- a positive factor on both sides is left out
pub cancel : (a b c : ℤ) → pos 0 <ℤ c → (a *ℤ c) ≤ℤ (b *ℤ c) → a ≤ℤ b
cancel a b c h l = ⊎_elim (λ (k : b <ℤ a). clash_ℤ (mono_strict b a c h k) l) (λ k. k) (lt_or_ge b a)

pub both_pos : (a b : ℤ) → pos 0 <ℤ a → pos 0 <ℤ b → pos 0 <ℤ (a *ℤ b)
both_pos = over 2 _ (λ ρ h k. also (prod (next h) (next k)) (also h (also k (simp (linear, ρ) (omega arith)))))

-- m·c ≤ z < (k + 1)·c only where m ≤ k
pub whole_below : (m k z c : ℤ) → pos 0 <ℤ c → (m *ℤ c) ≤ℤ z → z <ℤ ((k +ℤ pos 1) *ℤ c) → m ≤ℤ k
whole_below m k z c h l u = ⊎_elim (λ (g : k <ℤ m). clash_ℤ u (trans (mono (k +ℤ pos 1) m c (lt_le h) (next g)) l)) (λ g. g) (lt_or_ge k m)

-- ---- x between a and b, y between c and d: what is at most each of the four corner products is at most x·y
pub between : (a b x y m : ℤ) → a ≤ℤ x → x ≤ℤ b → m ≤ℤ (a *ℤ y) → m ≤ℤ (b *ℤ y) → m ≤ℤ (x *ℤ y)
between a b x y m h k p q = ⊎_elim (λ l. below b x y m k q (lt_le l)) (λ l. above a x y m h p l) (lt_or_ge y (pos 0))
  where
    above : (a x y m : ℤ) → a ≤ℤ x → m ≤ℤ (a *ℤ y) → pos 0 ≤ℤ y → m ≤ℤ (x *ℤ y)
    above = over 4 _ (λ ρ h p l. also (prod h l) (also p (simp (linear, ρ) (omega arith))))

    below : (b x y m : ℤ) → x ≤ℤ b → m ≤ℤ (b *ℤ y) → y ≤ℤ pos 0 → m ≤ℤ (x *ℤ y)
    below = over 4 _ (λ ρ h p l. also (prod h l) (also p (simp (linear, ρ) (omega arith))))

pub corners : (a b c d x y m : ℤ) → a ≤ℤ x → x ≤ℤ b → c ≤ℤ y → y ≤ℤ d → m ≤ℤ (a *ℤ c) → m ≤ℤ (a *ℤ d) → m ≤ℤ (b *ℤ c) → m ≤ℤ (b *ℤ d) → m ≤ℤ (x *ℤ y)
corners a b c d x y m h k p q e₁ e₂ e₃ e₄ = between a b x y m h k (flip a e₁ e₂) (flip b e₃ e₄)
  where
    flip : (z : ℤ) → m ≤ℤ (z *ℤ c) → m ≤ℤ (z *ℤ d) → m ≤ℤ (z *ℤ y)
    flip z u v = rw (*ℤ_comm z y) (between c d y z m p q (rw (*ℤ_comm z c) at u) (rw (*ℤ_comm z d) at v))
