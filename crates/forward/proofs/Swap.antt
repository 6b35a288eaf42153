-- Where the intervals stand after two rows have changed places.
use mathlib.Core.Path.{◌≡◌, refl, sym, ap, ◌∙◌, subst}
use mathlib.Core.Logic.{◌≢◌}
use mathlib.Core.List.{List, [], ◌∷◌}
use Prim.Native.Nat.{ℕ, zero, suc, ◌+◌, ◌-◌, ◌*◌, ◌≤◌, ◌<◌}
use native.Mathlib.Omega.{arith}
use native.Mathlib.Decide.{ℕ_discrete, dec_lt}
use lib.IntN.{ℤ, pos}
use lib.ListN.{length, get_or, set}
use Rattle.interval.specs.declared.Interval.{Interval}
use Rattle.inputs.specs.Place.{at, put, cell}
use Rattle.inputs.specs.Code.{Sound}
use Rattle.inputs.proofs.Place.{length_put, at_put_same, at_put_other, sound_put, cell_before}
use Rattle.inputs.proofs.Tests.{rows_apart}
use Rattle.forward.specs.Run.{rhs}
use Rattle.forward.specs.Pivot.{exchanged, swapped_columns, swapped}
use Rattle.forward.specs.Code.{Working}
use Rattle.forward.proofs.Index.{cell_room}
use Rattle.forward.proofs.Step.{turn}

-- ---- a row with itself
set_self : (t : List ℤ) (p : ℕ) → set t p (get_or t p (pos 0)) ≡ t
set_self [] p = refl
set_self (x ∷ t) zero = refl
set_self (x ∷ t) (suc p) = ap (λ l. x ∷ l) (set_self t p)

put_self : (t : List ℤ) (p : ℕ) → put t p (at t p) ≡ t
unfolding put at
put_self t p = rw (set_self t (2 * p), set_self t (2 * p + 1))

exchanged_self : (p : ℕ) (t : List ℤ) → exchanged p p t ≡ t
unfolding exchanged
exchanged_self p t = rw (put_self t p) (put_self t p)

columns_self : (n k d j : ℕ) (t : List ℤ) → swapped_columns n k k d j t ≡ t
unfolding swapped_columns
columns_self n k zero j t = refl
columns_self n k (suc d) j t = rw (exchanged_self (cell n k j) t) (columns_self n k d (j + 1) t)

pub swapped_self : (n k : ℕ) (t : List ℤ) → swapped n k k t ≡ t
unfolding swapped
swapped_self n k t = rw (columns_self n k (n - k) k t) (exchanged_self (rhs n k) t)

-- ---- two intervals
module _ (p q : ℕ) (t : List ℤ) where
  pub exchanged_long : length (exchanged p q t) ≡ length t
  unfolding exchanged
  exchanged_long = length_put (put t p (at t q)) q (at t p) ∙ length_put t p (at t q)

  exchanged_second : 2 * q + 1 < length t → at (exchanged p q t) q ≡ at t p
  unfolding exchanged
  exchanged_second h = at_put_same (put t p (at t q)) q (at t p) (rw length_put h)

  exchanged_first : p ≢ q → 2 * p + 1 < length t → at (exchanged p q t) p ≡ at t q
  unfolding exchanged
  exchanged_first n h = at_put_other (put t p (at t q)) q p (at t p) n ∙ at_put_same t p (at t q) h

  exchanged_other : (r : ℕ) → r ≢ p → r ≢ q → at (exchanged p q t) r ≡ at t r
  unfolding exchanged
  exchanged_other r m n = at_put_other (put t p (at t q)) q r (at t p) n ∙ at_put_other t p r (at t q) m

  exchanged_sound : Sound t → 2 * p + 1 < length t → 2 * q + 1 < length t → Sound (exchanged p q t)
  unfolding exchanged
  exchanged_sound s h k = sound_put (put t p (at t q)) q (at t p) (sound_put t p (at t q) s h (s.each q)) (rw length_put k) (s.each p)

-- as it is carried out
pub exchanged_by : (p q : ℕ) (t : List ℤ) {t₁ t₂ : List ℤ} {a b : Interval} → a ≡ at t p → b ≡ at t q → t₁ ≡ put t p b → t₂ ≡ put t₁ q a → t₂ ≡ exchanged p q t
unfolding exchanged
exchanged_by p q t e f g h = rw (h, g, e, f)

pub columns_turn : (n k i j : ℕ) (t : List ℤ) {t' : List ℤ} → j < n → t' ≡ exchanged (cell n k j) (cell n i j) t → swapped_columns n k i (n - j) j t ≡ swapped_columns n k i (n - (j + 1)) (j + 1) t'
unfolding swapped_columns
columns_turn n k i j t h e = rw (turn n j h, e)

pub swapped_by : (n k i j : ℕ) (t₀ t : List ℤ) {t' : List ℤ} → n ≤ j → swapped_columns n k i (n - k) k t₀ ≡ swapped_columns n k i (n - j) j t → t' ≡ exchanged (rhs n k) (rhs n i) t → t' ≡ swapped n k i t₀
unfolding swapped swapped_columns
swapped_by n k i j t₀ t h e f = let z : n - j ≡ 0 = omega arith in f ∙ rw (rw z at e)

-- ---- two rows stay a working copy
module _ (n k i : ℕ) (h : k < n) (g : i < n) where
  columns_working : (d j : ℕ) (t : List ℤ) → j + d ≤ n → Working n t → Working n (swapped_columns n k i d j t)
  unfolding swapped_columns
  columns_working zero j t b w = w
  columns_working (suc d) j t b w =
      let p = cell n k j in
      let q = cell n i j in
      let j' : j < n = omega arith in
      columns_working d (j + 1) (exchanged p q t) (omega arith) (record {
        few = w.few;
        room = rw (exchanged_long p q t) w.room;
        sound = exchanged_sound p q t w.sound (cell_room n k j w h j') (cell_room n i j w g j');
      })

  pub swapped_working : (t : List ℤ) → Working n t → Working n (swapped n k i t)
  unfolding swapped
  swapped_working t w =
      let t₁ = swapped_columns n k i (n - k) k t in
      let w₁ = columns_working (n - k) k t (omega arith) w in record {
        few = w.few;
        room = rw (exchanged_long (rhs n k) (rhs n i) t₁) w₁.room;
        sound = exchanged_sound (rhs n k) (rhs n i) t₁ w₁.sound (omega (arith, w₁.room)) (omega (arith, w₁.room));
      }

-- ---- d columns of the rows k and i, from column j on, have changed places
record Columns (n k i d j : ℕ) (t t' : List ℤ) : Type 0 where
  as_long : length t' ≡ length t
  first : (l : ℕ) → j ≤ l → l < j + d → at t' (cell n k l) ≡ at t (cell n i l)
  second : (l : ℕ) → j ≤ l → l < j + d → at t' (cell n i l) ≡ at t (cell n k l)
  other : (r : ℕ) → ((l : ℕ) → j ≤ l → l < j + d → (r ≢ cell n k l) × (r ≢ cell n i l)) → at t' r ≡ at t r

module _ (n k i : ℕ) (h : k < i) (g : i < n) where
  columns_swapped : (d j : ℕ) (t : List ℤ) → j + d ≤ n → 2 * (n * n + n) ≤ length t → Columns n k i d j t (swapped_columns n k i d j t)
  unfolding swapped_columns
  columns_swapped zero j t b room =
      record { as_long = refl; first = λ l u v. absurd (omega arith); second = λ l u v. absurd (omega arith); other = λ r f. refl }
  columns_swapped (suc d) j t b room = go (columns_swapped d (j + 1) t₁ (omega arith) (rw (exchanged_long (cell n k j) (cell n i j) t) room))
    where
      t₁ : List ℤ
      t₁ = exchanged (cell n k j) (cell n i j) t

      rows : k * n + n ≤ i * n
      rows = rows_apart n k i h

      in_first : 2 * cell n k j + 1 < length t
      in_first = omega (arith, cell_before n k j (omega arith) (omega arith), room)

      in_second : 2 * cell n i j + 1 < length t
      in_second = omega (arith, cell_before n i j g (omega arith), room)

      go : Columns n k i d (j + 1) t₁ (swapped_columns n k i d (j + 1) t₁) → Columns n k i (suc d) j t (swapped_columns n k i d (j + 1) t₁)
      go c =
          record {
            as_long = c.as_long ∙ exchanged_long (cell n k j) (cell n i j) t;
            first = λ l u v. first l u v (ℕ_discrete l j);
            second = λ l u v. second l u v (ℕ_discrete l j);
            other = λ r f.
                c.other r (λ l u v. f l (omega arith) (omega arith)) ∙
                exchanged_other (cell n k j) (cell n i j) t r (f j (omega arith) (omega arith)).0 (f j (omega arith) (omega arith)).1;
          }
        where
          first : (l : ℕ) → j ≤ l → l < j + suc d → Dec (l ≡ j) → at (swapped_columns n k i d (j + 1) t₁) (cell n k l) ≡ at t (cell n i l)
          first l u v (yes e) = rw e (c.other (cell n k j) (λ m u₁ v₁. (omega arith, omega (arith, rows))) ∙ exchanged_first (cell n k j) (cell n i j) t (omega (arith, rows)) in_first)
          first l u v (no e) = c.first l (omega (arith, e)) (omega arith) ∙ exchanged_other (cell n k j) (cell n i j) t (cell n i l) (omega (arith, rows)) (omega (arith, e))

          second : (l : ℕ) → j ≤ l → l < j + suc d → Dec (l ≡ j) → at (swapped_columns n k i d (j + 1) t₁) (cell n i l) ≡ at t (cell n k l)
          second l u v (yes e) = rw e (c.other (cell n i j) (λ m u₁ v₁. (omega (arith, rows), omega arith)) ∙ exchanged_second (cell n k j) (cell n i j) t in_second)
          second l u v (no e) = c.second l (omega (arith, e)) (omega arith) ∙ exchanged_other (cell n k j) (cell n i j) t (cell n k l) (omega (arith, e)) (omega (arith, rows))

-- ---- the rows k and i have changed places, from column k on
pub record Swapped (n k i : ℕ) (t t' : List ℤ) : Type 0 where
  pub as_long : length t' ≡ length t
  pub first : (l : ℕ) → k ≤ l → l < n → at t' (cell n k l) ≡ at t (cell n i l)
  pub second : (l : ℕ) → k ≤ l → l < n → at t' (cell n i l) ≡ at t (cell n k l)
  pub first_right : at t' (rhs n k) ≡ at t (rhs n i)
  pub second_right : at t' (rhs n i) ≡ at t (rhs n k)
  pub other : (l j : ℕ) → l < n → j < n → l ≢ k → l ≢ i → at t' (cell n l j) ≡ at t (cell n l j)
  pub other_right : (l : ℕ) → l ≢ k → l ≢ i → at t' (rhs n l) ≡ at t (rhs n l)
  pub before : (q : ℕ) → q < k * n → at t' q ≡ at t q

apart : (n l k j m : ℕ) → l ≢ k → j < n → m < n → cell n l j ≢ cell n k m
apart n l k j m h a b = go (dec_lt l k)
  where
    go : Dec (l < k) → cell n l j ≢ cell n k m
    go (yes u) = omega (arith, rows_apart n l k u)
    go (no u) = let v : k < l = omega (arith, u, h) in omega (arith, rows_apart n k l v)

module _ (n k i : ℕ) (g : i < n) (t : List ℤ) (room : 2 * (n * n + n) ≤ length t) where
  two_swapped : k < i → Swapped n k i t (swapped n k i t)
  unfolding swapped
  two_swapped h = record {
    as_long = exchanged_long (rhs n k) (rhs n i) t₁ ∙ c.as_long;
    first = λ l u v. off (cell n k l) (cell_before n k l (omega arith) v) ∙ c.first l u (omega arith);
    second = λ l u v. off (cell n i l) (cell_before n i l g v) ∙ c.second l u (omega arith);
    first_right = exchanged_first (rhs n k) (rhs n i) t₁ (omega arith) (omega (arith, c.as_long)) ∙ right i g;
    second_right = exchanged_second (rhs n k) (rhs n i) t₁ (omega (arith, c.as_long)) ∙ right k (omega arith);
    other = λ l j a b u v. off (cell n l j) (cell_before n l j a b) ∙ c.other (cell n l j) (λ m x y. (apart n l k j m u b (omega arith), apart n l i j m v b (omega arith)));
    other_right = λ l u v. exchanged_other (rhs n k) (rhs n i) t₁ (rhs n l) (omega (arith, u)) (omega (arith, v)) ∙ past (rhs n l) (omega arith);
    before = λ q u. off q (omega (arith, whole k (omega arith))) ∙ c.other q (λ m x y. (omega arith, omega (arith, rows_apart n k i h)));
  }
    where
      t₁ : List ℤ
      t₁ = swapped_columns n k i (n - k) k t

      c : Columns n k i (n - k) k t t₁
      c = columns_swapped n k i h g (n - k) k t (omega arith) room

      whole : (l : ℕ) → l < n → l * n + n ≤ n * n
      whole l a = rows_apart n l n a

      -- the matrix, which the exchange of the right sides leaves
      off : (p : ℕ) → p < n * n → at (exchanged (rhs n k) (rhs n i) t₁) p ≡ at t₁ p
      off p a = exchanged_other (rhs n k) (rhs n i) t₁ p (omega arith) (omega arith)

      -- what stands after the matrix, which the columns leave
      past : (p : ℕ) → n * n ≤ p → at t₁ p ≡ at t p
      past p a = c.other p (λ m x y. (omega (arith, cell_before n k m (omega arith) (omega arith)), omega (arith, cell_before n i m g (omega arith))))

      right : (l : ℕ) → l < n → at t₁ (rhs n l) ≡ at t (rhs n l)
      right l a = past (rhs n l) (omega arith)

  one_swapped : Swapped n i i t (swapped n i i t)
  one_swapped =
      subst (λ s. Swapped n i i t s) (sym (swapped_self n i t)) (record {
        as_long = refl;
        first = λ l u v. refl;
        second = λ l u v. refl;
        first_right = refl;
        second_right = refl;
        other = λ l j a b u v. refl;
        other_right = λ l u v. refl;
        before = λ q u. refl;
      })

  pub rows_swapped : k ≤ i → Swapped n k i t (swapped n k i t)
  rows_swapped h = go (ℕ_discrete k i)
    where
      go : Dec (k ≡ i) → Swapped n k i t (swapped n k i t)
      go (yes e) = rw e one_swapped
      go (no e) = two_swapped (omega (arith, e))
