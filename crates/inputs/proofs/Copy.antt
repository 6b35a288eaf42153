-- One turn of the loops that copy numbers, and the end of one.
use mathlib.Core.Path.{◌≡◌, sym, ap, ap₂, ◌∙◌}
use mathlib.Core.List.{List, ◌++◌, append-nil, append_assoc}
use Prim.Native.Nat.{ℕ, ◌+◌, ◌≤◌, ◌<◌}
use native.Mathlib.Omega.{arith}
use native.Mathlib.Nat.{zero-add, le_refl}
use native.Mathlib.Numerals.{add-one}
use lib.IntN.{ℤ, pos}
use lib.ListN.{get_or, set, length, take, drop, length-drop, drop_of_length-le}
use lib.Seq.{paste, paste-suc, get_or-drop, take-length, take-append_seam, drop-append-add, drop-drop}

-- t has the first j numbers of s, of whatever kind, from at on, and the next is stored; past its end s reads as z
pub paste_more : {A : Type 0} (z : A) (d : List A) (at : ℕ) (s : List A) (j : ℕ) {t : List A} {v : A} → t ≡ paste d at s j → v ≡ get_or s j z → at + j < length d → j < length s → set t (at + j) v ≡ paste d at s (j + 1)
paste_more z d at s j e f h k =
    ap₂ (λ l u. set l (at + j) u) e f ∙ paste-suc d at s j z h k ∙ ap (paste d at s) (sym (add-one j))

-- the same of a copy to the front of x, of what stands in s from a place on
pub out_more : (x s : List ℤ) (from j : ℕ) {y : List ℤ} {v : ℤ} → from + length x ≤ length s → y ≡ paste x 0 (drop from s) j → v ≡ get_or s (from + j) (pos 0) → j < length x → set y j v ≡ paste x 0 (drop from s) (j + 1)
out_more x s from j h e f k =
    rw (zero-add j) at
    (paste_more (pos 0) x 0 (drop from s) j e (f ∙ sym (get_or-drop from s j (pos 0))) (omega arith) (rw (length-drop from s) (omega arith)))

-- then all of x is from s
pub out_end : (x s : List ℤ) (j : ℕ) {y : List ℤ} → y ≡ paste x 0 s j → j ≡ length x → y ≡ take (length x) s
out_end x s j e f = e ∙ rw (f, zero-add (length x), drop_of_length-le x (le_refl (length x))) (append-nil (take (length x) s))

-- a list pasted to the front, of whatever kind, stands before what was there past it
pub fronted : {A : Type 0} (z a : List A) → paste z 0 a (length a) ≡ a ++ drop (length a) z
fronted z a = λ i. take-length a i ++ drop (zero-add (length a) i) z

-- two lists pasted one after the other
pub pasted_both : (z a f t₁ t₂ : List ℤ) → t₁ ≡ paste z 0 a (length a) → t₂ ≡ paste t₁ (length a) f (length f) → t₂ ≡ a ++ (f ++ drop (length a + length f) z)
pasted_both z a f t₁ t₂ e g =
    let w = drop (length a) z in
    let p : t₁ ≡ a ++ w = e ∙ fronted z a in
    g ∙ ap (λ l. paste l (length a) f (length f)) p ∙ (λ i. (take-append_seam a w i ++ take-length f i) ++ (drop-append-add a w (length f) ∙ drop-drop (length f) (length a) z) i) ∙ append_assoc a f (drop (length a + length f) z)
