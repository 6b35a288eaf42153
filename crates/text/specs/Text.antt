-- Document 01, The cellar text: 'Line 1: n names. Then n lines of B and one line of b, each with n values in the sequence of the names.
-- Each line ends with byte 10; there are n+2 lines.'
use Rattle.std.specs.Prelude.{cond, List, [], ◌∷◌, ◌++◌, ℕ, zero, suc, ◌+◌, ◌*◌, leb, ℤ, length, take, drop, Option, Some, None}
use Rattle.outcome.specs.declared.Refusal.TheVariants as refusal
use Rattle.outcome.specs.Run.{Run, refused, done, and_then}
use Rattle.inputs.specs.System.{System, system}
use Rattle.text.specs.Parts.{parts, fields}
use Rattle.text.specs.Number.{values}
use Rattle.text.specs.Names.{are_names}

-- The lines of a text are the parts between its bytes 10. The last part has no byte 10 after it: it is an unended line, or empty.
-- 'Number 8 names the first faulty line, from 1; a missing line counts as faulty, and so do a surplus line and an unended one.'
abbrev pub faulty : {A : Type 0} → (line : ℕ) → Run A
faulty k = refused (refusal.Text k)

-- ---- line 1: the names, and the parts after it
pub record Head : Type 0 where
  pub names : List ℕ
  pub rest : List (List ℕ)

unfoldable pub first_line : List (List ℕ) → Run Head
first_line [] = faulty 1
first_line (l ∷ []) = faulty 1
first_line (l ∷ (r ∷ rs)) = cond (are_names (fields l)) (done (record { names = l; rest = r ∷ rs })) (faulty 1)

-- 'A text above 65,536 bytes gives place 0, before any line is judged'
unfoldable pub head : List ℕ → Run Head
head text = cond (leb (length text) 65_536) (first_line (parts 10 text)) (faulty 0)

-- ---- the other lines
-- line k: its numbers, if it has them
unfoldable pub on_line : (k : ℕ) → Option (List ℤ) → Run (List ℤ)
on_line k None = faulty k
on_line k (Some xs) = done xs

-- these numbers, and then those of the lines that follow
unfoldable pub before : List ℤ → Run (List ℤ) → Run (List ℤ)
before xs r = and_then r (λ ys. done (xs ++ ys))

-- after the last line: a surplus line, ended or not, is line k
unfoldable pub at_end : (k : ℕ) → List (List ℕ) → Run (List ℤ)
at_end k [] = faulty k
at_end k ([] ∷ []) = done []
at_end k ([] ∷ (l ∷ ls)) = faulty k
at_end k ((b ∷ l) ∷ ls) = faulty k

-- d lines of n values, the first of them line k, and then nothing
unfoldable pub rows_from : (n d k : ℕ) → List (List ℕ) → Run (List ℤ)
rows_from n zero k ls = at_end k ls
rows_from n (suc d) k [] = faulty k
rows_from n (suc d) k (l ∷ []) = faulty k
rows_from n (suc d) k (l ∷ (r ∷ rs)) = and_then (on_line k (values n (fields l))) (λ xs. before xs (rows_from n d (k + 1) (r ∷ rs)))

-- ---- the whole text: the names as they stand in line 1, and the balance
pub record Cellar : Type 0 where
  pub names : List ℕ
  pub balance : System

-- the numbers of B, row by row, and then those of b
abbrev pub cellar : (names : List ℕ) → (n : ℕ) → List ℤ → Cellar
cellar l n zs = record { names = l; balance = system n (take (2 * (n * n)) zs) (drop (2 * (n * n)) zs) }

abbrev pub after_head : (n : ℕ) → Head → Run Cellar
after_head n h = and_then (rows_from n (n + 1) 2 h.rest) (λ zs. done (cellar h.names n zs))

unfoldable pub reading : List ℕ → Run Cellar
reading text = and_then (head text) (λ h. after_head (length (fields h.names)) h)
