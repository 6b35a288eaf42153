-- I − B formed in place, and the entries of I as whole numbers.
use mathlib.Core.Path.{◌≡◌, refl, sym, ap, ◌∙◌}
use mathlib.Core.Bool.{Bool, true, false, cond}
use mathlib.Core.Logic.{◌⊎◌, inl, inr}
use mathlib.Core.List.{List}
use Prim.Native.Nat.{ℕ, zero, suc, ◌+◌, ◌*◌, ◌≤◌, ◌<◌}
use native.Mathlib.Omega.{arith}
use native.Mathlib.Nat.{add-mul, one-mul}
use native.Mathlib.Decide.{ℕ_discrete}
use borrow.Author.Tests.{eq-eqb, ne_eqb}
use lib.Dec.{eqb}
use lib.IntN.{ℤ, pos, ◌+ℤ◌, ◌-ℤ◌, ◌*ℤ◌}
use lib.ListN.{length}
use lib.Signed.{◌≤ℤ◌, lt_z_yes, ≤ℤ_refl}
use Rattle.integer.proofs.Linear.{linear, over}
use Rattle.interval.specs.declared.Interval.{Interval}
use Rattle.interval.specs.Interval.{scale, exact_difference}
use Rattle.interval.specs.Interval as interval
use Rattle.interval.proofs.Range.{same_ends}
use Rattle.fraction.specs.Fraction.{Inside}
use Rattle.inputs.specs.Place.{at, put, cell}
use Rattle.inputs.proofs.Place.{length_put, at_put_other}
use Rattle.outcome.specs.Run.{done}
use Rattle.outcome.proofs.Run.{done_same, joined}
use Rattle.forward.specs.Formed.{identity, formed_row, formed_rows}
use Rattle.inputs.proofs.Tests.{rows_apart}
use Rattle.forward.proofs.Run.{ranged}
use Rattle.accuracy.proofs.Common.{ratio}
use Rattle.accuracy.proofs.Row.{dot}
use Rattle.accuracy.proofs.Written.{Written, written_none, written_more}

-- ---- an entry of I as a number of wholes
unfoldable pub wholes : (i j : ℕ) → ℤ
wholes i j = cond (eqb i j) (pos 1) (pos 0)

pub identity_inside : (i j : ℕ) → Inside (identity i j) (ratio (scale *ℤ wholes i j) (pos 1) (lt_z_yes tt))
unfolding identity wholes
identity_inside i j = go (eqb i j)
  where
    low : (s : ℤ) → (pos 0 *ℤ pos 1) ≤ℤ (s *ℤ pos 0)
    low = over 1 _ (λ ρ. simp (linear, ρ) (omega arith))

    high : (s : ℤ) → (s *ℤ pos 0) ≤ℤ (pos 0 *ℤ pos 1)
    high = over 1 _ (λ ρ. simp (linear, ρ) (omega arith))

    go : (b : Bool) → Inside (cond b interval.one interval.zero) (ratio (scale *ℤ cond b (pos 1) (pos 0)) (pos 1) (lt_z_yes tt))
    go true = record { low = ≤ℤ_refl _; high = ≤ℤ_refl _ }
    go false = record { low = low scale; high = high scale }

-- I − (I − A) is A, because the entries of I are single numbers
pub identity_twice : (i j : ℕ) (v : Interval) → exact_difference (identity i j) (exact_difference (identity i j) v) ≡ v
unfolding identity exact_difference
identity_twice i j v = go (eqb i j)
  where
    twice : (u a : ℤ) → u -ℤ (u -ℤ a) ≡ a
    twice = over 2 _ (λ ρ. simp linear (omega arith))

    go : (b : Bool) → exact_difference (cond b interval.one interval.zero) (exact_difference (cond b interval.one interval.zero) v) ≡ v
    go true = same_ends _ _ (twice scale v.lo) (twice scale v.hi)
    go false = same_ends _ _ (twice (pos 0) v.lo) (twice (pos 0) v.hi)

-- ---- a row of I times the weights is the weight of that row
module _ (i : ℕ) (w : ℕ → ℤ) where
  dot_past : (d j : ℕ) → i < j → dot (wholes i) w d j ≡ pos 0
  unfolding dot wholes
  dot_past zero j h = refl
  dot_past (suc d) j h = rw (ne_eqb i j (omega arith), dot_past d (j + 1) (omega arith)) (none (w j))
    where
      none : (x : ℤ) → pos 0 *ℤ x +ℤ pos 0 ≡ pos 0
      none = over 1 _ (λ ρ. simp (linear, ρ) (omega arith))

  pub dot_identity : (d j : ℕ) → j ≤ i → i < j + d → dot (wholes i) w d j ≡ w i
  unfolding dot wholes
  dot_identity zero j h k = absurd (omega arith)
  dot_identity (suc d) j h k = go (ℕ_discrete i j) (dot_identity d (j + 1))
    where
      once : (x : ℤ) → pos 1 *ℤ x +ℤ pos 0 ≡ x
      once = over 1 _ (λ ρ. simp (linear, ρ) (omega arith))

      later : (x y : ℤ) → pos 0 *ℤ x +ℤ y ≡ y
      later = over 2 _ (λ ρ. simp (linear, ρ) (omega arith))

      go : Dec (i ≡ j) → (j + 1 ≤ i → i < j + 1 + d → dot (wholes i) w d (j + 1) ≡ w i) → wholes i j *ℤ w j +ℤ dot (wholes i) w d (j + 1) ≡ w i
      go (yes e) f = rw (eq-eqb i j e, dot_past d (j + 1) (omega arith)) (once (w j) ∙ ap w (sym e))
      go (no e) f = rw (ne_eqb i j e, f (omega (arith, e)) (omega arith)) (later (w j) (w i))

-- ---- I − B in place
abbrev entry : (n i : ℕ) → List ℤ → ℕ → Interval
entry n i t j = exact_difference (identity i j) (at t (cell n i j))

row_formed : (n i : ℕ) → i < n → (d j : ℕ) (t t' : List ℤ) → j + d ≤ n → 2 * (n * n + n) ≤ length t → formed_row n i d j t ≡ done t' → Written n i (entry n i) d j t t'
unfolding formed_row
row_formed n i g zero j t t' b room e = written_none n i (entry n i) j t t' e
row_formed n i g (suc d) j t t' b room e =
    written_more n i (entry n i) j t t' d g b room
    (λ l u v. ap (exact_difference (identity i l)) (at_put_other t (cell n i j) (cell n i l) _ (omega arith)))
    (row_formed n i g d (j + 1) (put t (cell n i j) (entry n i t j)) t' (omega arith) (rw length_put room) (ranged _ _ _ t' e).rest)

-- the rows from i on
pub record Formed (n i : ℕ) (t t' : List ℤ) : Type 0 where
  pub as_long : length t' ≡ length t
  pub new : (l j : ℕ) → i ≤ l → l < n → j < n → at t' (cell n l j) ≡ exact_difference (identity l j) (at t (cell n l j))
  pub old : (p : ℕ) → (p < i * n) ⊎ (n * n ≤ p) → at t' p ≡ at t p

pub rows_formed : (n d i : ℕ) (t t' : List ℤ) → i + d ≡ n → 2 * (n * n + n) ≤ length t → formed_rows n d i t ≡ done t' → Formed n i t t'
unfolding formed_rows
rows_formed n zero i t t' b room e =
    let q = done_same e in
    record { as_long = ap length (sym q); new = λ l j u v c. absurd (omega arith); old = λ p u. ap (λ s. at s p) (sym q) }
rows_formed n (suc d) i t t' b room e =
    let a = joined _ _ t' e in
    let g : i < n = omega arith in
    let f = row_formed n i g n 0 t a.mid (omega arith) room a.first in
    go a.mid g f (rows_formed n d (i + 1) a.mid t' (omega arith) (omega (arith, f.as_long)) a.rest)
  where
    next : (i + 1) * n ≡ i * n + n
    next = rw (add-mul i 1 n, one-mul n)

    go : (s : List ℤ) → i < n → Written n i (entry n i) n 0 t s → Formed n (i + 1) s t' → Formed n i t t'
    go s g f h =
        record {
          as_long = h.as_long ∙ f.as_long;
          new = λ l j u v c. new l j u v c (ℕ_discrete l i);
          old = old;
        }
      where
        old : (p : ℕ) → (p < i * n) ⊎ (n * n ≤ p) → at t' p ≡ at t p
        old p (inl u) = h.old p (inl (omega (arith, next))) ∙ f.old p (inl (omega arith))
        old p (inr u) = h.old p (inr u) ∙ f.old p (inr (omega (arith, rows_apart n i n g)))

        new : (l j : ℕ) → i ≤ l → l < n → j < n → Dec (l ≡ i) → at t' (cell n l j) ≡ exact_difference (identity l j) (at t (cell n l j))
        new l j u v c (yes q) = rw q (h.old (cell n i j) (inl (omega (arith, next))) ∙ f.new j (omega arith) (omega arith))
        new l j u v c (no q) =
            let q' : i < l = omega (arith, q) in
            h.new l j (omega arith) v c ∙ ap (exact_difference (identity l j)) (f.old (cell n l j) (inr (omega (arith, rows_apart n i l q'))))
