-- What each way through the code says of the lines of a text.
use mathlib.Core.Path.{◌≡◌, refl, sym, ap, ◌∙◌}
use mathlib.Core.Bool.{Bool, true, false}
use mathlib.Core.List.{List, [], ◌∷◌, ◌++◌, append-nil, append_assoc}
use Prim.Native.Nat.{ℕ, suc, ◌+◌, ◌-◌, ◌*◌, ◌≤◌, ◌<◌}
use native.Mathlib.Omega.{arith}
use native.Mathlib.Nat.{add-mul, one-mul, zero-mul, sub-zero, mul-le-mul}
use lib.Dec.{eqb}
use lib.IntN.{ℤ}
use lib.ListN.{length, take, drop, length-drop, drop_of_length-le}
use Rattle.std.specs.Prelude.{Option, Some, None}
use Rattle.outcome.specs.Run.{Run, refused, done, and_then}
use Rattle.text.specs.Parts.{longer, parts, fields}
use Rattle.text.specs.Number.{then, values}
use Rattle.text.specs.Text.{faulty, on_line, before, at_end, rows_from}
use Rattle.search.specs.First.{first_from}
use Rattle.text.proofs.Parts.{parts_at, parts_none, parts_some}

-- ---- the numbers a are read, and then come those of line k and of the lines after it
abbrev line_then : (k : ℕ) → Option (List ℤ) → Run (List ℤ) → Run (List ℤ)
line_then k v R = and_then (on_line k v) (λ xs. before xs R)

never : {A : Type 0} {xs : List ℤ} → None ≡ Some xs → A
never e = cc

before_assoc : (a zs : List ℤ) (R : Run (List ℤ)) → before a (before zs R) ≡ before (a ++ zs) R
unfolding before and_then
before_assoc a zs (refused o) = refl
before_assoc a zs (done ys) = ap {B = Run (List ℤ)} done (sym (append_assoc a zs ys))

module _ (a : List ℤ) (k : ℕ) (R : Run (List ℤ)) where
  line_read : {z : List ℤ} (v : Option (List ℤ)) → Some z ≡ then (Some a) v → before a (line_then k v R) ≡ before z R
  unfolding then on_line and_then
  line_read None e = never (sym e)
  line_read {z} (Some zs) e = let f : z ≡ a ++ zs = cc e in before_assoc a zs R ∙ ap (λ l. before l R) (sym f)

  line_not : (v : Option (List ℤ)) → None ≡ then (Some a) v → before a (line_then k v R) ≡ faulty k
  unfolding then on_line before and_then
  line_not None e = refl
  line_not (Some zs) e = never e

-- ---- something after the last line
surplus : (k : ℕ) (xs : List ℕ) → 0 < length xs → at_end k (parts 10 xs) ≡ faulty k
unfolding at_end parts longer
surplus k [] h = absurd (omega arith)
surplus k (x ∷ xs) h = go (eqb x 10) refl
  where
    empty : (ps : List (List ℕ)) → 1 ≤ length ps → at_end k ([] ∷ ps) ≡ faulty k
    empty [] l = absurd (omega arith)
    empty (p ∷ ps) l = refl

    more : (ps : List (List ℕ)) → at_end k (longer x ps) ≡ faulty k
    more [] = refl
    more (p ∷ ps) = refl

    go : (t : Bool) → eqb x 10 ≡ t → at_end k (parts 10 (x ∷ xs)) ≡ faulty k
    go true f = rw f (empty (parts 10 xs) (parts_some 10 xs))
    go false f = rw f (more (parts 10 xs))

-- ---- i of the n + 1 lines are read; the next is line i + 2
module _ (s : List ℕ) (at n i : ℕ) (a : List ℤ) where
  one_more : {e : ℕ} → first_from s at 10 ≡ Some e → i < n + 1
      → rows_from n (n + 1 - i) (i + 2) (parts 10 (drop at s)) ≡ line_then (i + 2) (values n (fields (take (e - at) (drop at s)))) (rows_from n (n + 1 - (i + 1)) (i + 1 + 2) (parts 10 (drop (e + 1) s)))
  unfolding rows_from
  one_more {e} f h =
      let d : n + 1 - i ≡ suc (n + 1 - (i + 1)) = omega arith in
      let k : i + 2 + 1 ≡ i + 1 + 2 = omega arith in
      rw (d, parts_at s at 10 e f) (more (parts 10 (drop (e + 1) s)) (parts_some 10 (drop (e + 1) s)) ∙ rw k)
    where
      l : List ℕ
      l = take (e - at) (drop at s)

      more : (ps : List (List ℕ)) → 1 ≤ length ps
          → rows_from n (suc (n + 1 - (i + 1))) (i + 2) (l ∷ ps) ≡ line_then (i + 2) (values n (fields l)) (rows_from n (n + 1 - (i + 1)) (i + 2 + 1) ps)
      more [] k = absurd (omega arith)
      more (p ∷ ps) k = refl

  pub rows_go : {e : ℕ} {z : List ℤ} → first_from s at 10 ≡ Some e → i < n + 1 → Some z ≡ then (Some a) (values n (fields (take (e - at) (drop at s))))
      → before a (rows_from n (n + 1 - i) (i + 2) (parts 10 (drop at s))) ≡ before z (rows_from n (n + 1 - (i + 1)) (i + 1 + 2) (parts 10 (drop (e + 1) s)))
  rows_go f h q = ap (before a) (one_more f h) ∙ line_read a (i + 2) _ _ q

  pub rows_out : {e : ℕ} → first_from s at 10 ≡ Some e → i < n + 1 → None ≡ then (Some a) (values n (fields (take (e - at) (drop at s))))
      → before a (rows_from n (n + 1 - i) (i + 2) (parts 10 (drop at s))) ≡ faulty (i + 2)
  rows_out f h q = ap (before a) (one_more f h) ∙ line_not a (i + 2) _ _ q

  -- a missing line, or an unended one
  pub rows_missing : first_from s at 10 ≡ None → i < n + 1 → before a (rows_from n (n + 1 - i) (i + 2) (parts 10 (drop at s))) ≡ faulty (i + 2)
  unfolding rows_from before and_then
  rows_missing f h =
      let d : n + 1 - i ≡ suc (n + 1 - (i + 1)) = omega arith in
      rw (d, parts_none s at 10 f)

  -- ---- after the last line
  pub rows_end : i ≡ n + 1 → length s ≤ at → before a (rows_from n (n + 1 - i) (i + 2) (parts 10 (drop at s))) ≡ done a
  unfolding rows_from parts at_end before and_then
  rows_end e h =
      let d : n + 1 - i ≡ 0 = omega arith in
      rw (d, drop_of_length-le s h, append-nil)

  pub rows_surplus : i ≡ n + 1 → at < length s → before a (rows_from n (n + 1 - i) (i + 2) (parts 10 (drop at s))) ≡ faulty (i + 2)
  unfolding rows_from before and_then
  rows_surplus e h =
      let d : n + 1 - i ≡ 0 = omega arith in
      rw (d, surplus (i + 2) (drop at s) (omega (arith, length-drop at s)))

-- ---- the numbers of a line, after those of i lines
module _ (n i : ℕ) where
  pub row_after : (i + 1) * n ≡ i * n + n
  row_after = rw (add-mul i 1 n, one-mul n)

  pub room : n ≤ 32 → i < n + 1 → i * n + n ≤ 1056
  room h k =
      let e : (i + 1) * n ≡ i * n + n = row_after in
      rw (← e) (mul-le-mul {n₁ = i + 1} {m₁ = n} {n₂ = 33} {m₂ = 32} (omega arith) h)

pub rows_first : (n : ℕ) (t : List ℤ) (ls : List (List ℕ)) → rows_from n (n + 1) 2 ls ≡ before (take (2 * (0 * n)) t) (rows_from n (n + 1 - 0) (0 + 2) ls)
unfolding before and_then
rows_first n t ls =
    let z : 2 * (0 * n) ≡ 0 = omega (arith, zero-mul n) in
    rw (z, sub-zero (n + 1)) (same (rows_from n (n + 1) 2 ls))
  where
    same : (r : Run (List ℤ)) → r ≡ before [] r
    same (refused o) = refl
    same (done ys) = refl
