-- A part of a list after another list was placed in it: at that place, or beside it.
use mathlib.Core.Path.{◌≡◌, sym, ap, ◌∙◌}
use mathlib.Core.Logic.{◌⊎◌, inl, inr}
use mathlib.Core.List.{List, ◌++◌, append_assoc}
use Prim.Native.Nat.{ℕ, ◌+◌, ◌-◌, ◌≤◌, ◌<◌}
use native.Mathlib.Omega.{arith}
use native.Mathlib.Nat.{le_refl}
use lib.IntN.{ℤ, pos}
use lib.ListN.{get_or, set, length, take, drop, length-take, length-drop, get_or-append}
use lib.Seq.{length-take-le, take-length, take_at, drop_at, get_or-append-add, get_or-take, get_or-drop, ext_get_or, drop-set-lt, length-paste, length_paste_head}
use Rattle.half_rows.specs.Rows.{part}
use Rattle.half_rows.specs.State.{placed}

pub length_part : (t : List ℤ) (from count : ℕ) → from + count ≤ length t → length (part t from count) ≡ count
length_part t from count h = length-take-le count (drop from t) (rw (length-drop from t) (omega arith))

-- numbers before the part are not in it
pub part_set : (t : List ℤ) (from count i : ℕ) (v : ℤ) → i < from → part (set t i v) from count ≡ part t from count
part_set t from count i v h = ap (take count) (drop-set-lt from t i v h)

part_same : (t u : List ℤ) (from count : ℕ) → length t ≡ length u → ((i : ℕ) → from ≤ i → i < from + count → get_or t i (pos 0) ≡ get_or u i (pos 0))
    → part t from count ≡ part u from count
part_same t u from count e f =
    ext_get_or (pos 0) (part t from count) (part u from count) (simp (length-take, length-drop) (rw e)) (λ i h. same i (inside i h))
  where
    inside : (i : ℕ) → i < length (part t from count) → i < count
    inside i h = omega (arith, simp length-take at h)

    same : (i : ℕ) → i < count → get_or (part t from count) i (pos 0) ≡ get_or (part u from count) i (pos 0)
    same i h =
        get_or-take count (drop from t) i (pos 0) h ∙ get_or-drop from t i (pos 0) ∙ f (from + i) (omega arith) (omega arith)
        ∙ sym (get_or-take count (drop from u) i (pos 0) h ∙ get_or-drop from u i (pos 0))

-- ---- u, placed in t
module _ (t : List ℤ) (from : ℕ) (u : List ℤ) (h : from + length u ≤ length t) where
  pub length_placed : length (placed t from u) ≡ length t
  length_placed = length-paste t from u (length u) h (le_refl (length u))

  front : length (take from t ++ take (length u) u) ≡ from + length u
  front = length_paste_head t from u (length u) (omega arith) (le_refl (length u))

  pub number_before : (i : ℕ) → i < from → get_or (placed t from u) i (pos 0) ≡ get_or t i (pos 0)
  number_before i k =
      get_or-append (take from t ++ take (length u) u) (drop (from + length u) t) (pos 0) i (omega (arith, front))
      ∙ get_or-append (take from t) (take (length u) u) (pos 0) i (omega (arith, length-take-le from t (omega arith)))
      ∙ get_or-take from t i (pos 0) k

  number_after : (i : ℕ) → from + length u ≤ i → get_or (placed t from u) i (pos 0) ≡ get_or t i (pos 0)
  number_after i k =
      let l = take from t ++ take (length u) u in
      let e : i ≡ length l + (i - (from + length u)) = omega (arith, front) in
      let f : from + length u + (i - (from + length u)) ≡ i = omega arith in
      ap (λ (j : ℕ). get_or (placed t from u) j (pos 0)) e
      ∙ get_or-append-add l (drop (from + length u) t) (i - (from + length u)) (pos 0)
      ∙ get_or-drop (from + length u) t (i - (from + length u)) (pos 0) ∙ rw f

  pub part_placed : part (placed t from u) from (length u) ≡ u
  part_placed =
      let a = take from t in
      let c = take (length u) u in
      let r = drop (from + length u) t in
      ap (λ l. take (length u) (drop from l)) (append_assoc a c r)
      ∙ ap (take (length u)) (drop_at a (c ++ r) from (length-take-le from t (omega arith)))
      ∙ take_at c r (length u) (length-take-le (length u) u (le_refl (length u))) ∙ take-length u

  pub part_beside : (at count : ℕ) → (at + count ≤ from) ⊎ (from + length u ≤ at) → part (placed t from u) at count ≡ part t at count
  part_beside at count (inl k) = part_same (placed t from u) t at count length_placed (λ i p q. number_before i (omega arith))
  part_beside at count (inr k) = part_same (placed t from u) t at count length_placed (λ i p q. number_after i (omega arith))
