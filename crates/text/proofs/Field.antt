-- Where the parts of a line start and stop, by what a search finds.
use mathlib.Core.Path.{◌≡◌, refl, sym}
use mathlib.Core.List.{List, [], ◌∷◌}
use Prim.Native.Nat.{ℕ, suc, ◌+◌, ◌-◌, ◌≤◌, ◌<◌}
use native.Mathlib.Omega.{arith}
use borrow.Author.Rules.{rules}
use native.Mathlib.Nat.{zero-add}
use lib.ListN.{length, take, drop, length-drop}
use lib.Seq.{length-take-le}
use Rattle.std.specs.Prelude.{Option, Some, None, IsSome, unwrap_or}
use Rattle.text.specs.Parts.{fields, part, start_of}
use Rattle.search.specs.First.{first_from, within}
use Rattle.search.proofs.Answer.{FirstAt, first_at}
use Rattle.text.proofs.Parts.{parts_at, parts_none}

-- i parts are passed and the next one starts at `at`: the part with the number k is then the one with the number k − i from there
pub record Reached (line : List ℕ) (k i at : ℕ) : Type 0 where
  pub inside : at ≤ length line
  pub more : k - i < length (fields (drop at line))
  pub start : at + start_of (fields (drop at line)) (k - i) ≡ start_of (fields line) k
  pub same : part (fields (drop at line)) (k - i) ≡ part (fields line) k

-- a part that a separator ends at e has the bytes up to it
cut_length : (line : List ℕ) (at e : ℕ) → FirstAt line at 59 e → length (take (e - at) (drop at line)) ≡ e - at
cut_length line at e f = length-take-le (e - at) (drop at line) (rw (length-drop at line) (omega arith))

start_none : (ps : List (List ℕ)) → start_of ps 0 ≡ 0
unfolding start_of
start_none [] = refl
start_none (p ∷ ps) = refl

module _ (line : List ℕ) (k : ℕ) where
  pub reached_first : k < length (fields line) → Reached line k 0 0
  reached_first h =
      let z : k - 0 ≡ k = omega arith in
      record { inside = omega arith; more = rw z h; start = rw z (zero-add (start_of (fields line) k)); same = rw z }

  -- past the separator at e starts the next part
  pub reached_next : (i at e : ℕ) → Reached line k i at → i < k → FirstAt line at 59 e → Reached line k (i + 1) (e + 1)
  unfolding start_of part
  reached_next i at e r h f =
      let d : k - i ≡ suc (k - (i + 1)) = omega arith in
      let q = parts_at line at 59 e f.is in
      let l = cut_length line at e f in
      let m = rw (d, q) at r.more in
      let s = rw (d, q, l) at r.start in
      record { inside = omega arith; more = omega (arith, m); start = omega (arith, s); same = rw (d, q) at r.same }

  -- a part is left, so there is a separator
  pub reached_found : (i at : ℕ) → Reached line k i at → i < k → IsSome (first_from line at 59)
  reached_found i at r h = go (first_from line at 59) refl
    where
      go : (f : Option ℕ) → first_from line at 59 ≡ f → IsSome f
      go (Some e) f = search rules
      go None f = let m = rw (parts_none line at 59 f) at r.more in absurd (omega (arith, m))

  pub reached_last : (i at : ℕ) → Reached line k i at → k ≤ i → ((at ≡ start_of (fields line) k) × (at ≤ length line)) × (part (fields (drop at line)) 0 ≡ part (fields line) k)
  reached_last i at r h =
      let z : k - i ≡ 0 = omega arith in
      let s = rw (z, start_none) at r.start in
      ((omega (arith, s), r.inside), rw z at r.same)

-- where the part that starts at `at` stops, by what the search answers
module _ (line : List ℕ) (at : ℕ) where
  pub stop_at : (e : ℕ) → FirstAt line at 59 e → (e ≡ at + length (part (fields (drop at line)) 0)) × (e ≤ length line)
  unfolding part
  stop_at e f = (rw (parts_at line at 59 e f.is, cut_length line at e f) (omega arith), omega arith)

  pub stop_none : at ≤ length line → first_from line at 59 ≡ None → (length line ≡ at + length (part (fields (drop at line)) 0)) × (length line ≤ length line)
  unfolding part
  stop_none h f = (rw (parts_none line at 59 f, length-drop at line) (omega arith), omega arith)

  pub stop_is : at ≤ length line → (r : Option ℕ) → (r ≡ first_from line at 59) × within line at r
      → (unwrap_or r (length line) ≡ at + length (part (fields (drop at line)) 0)) × (unwrap_or r (length line) ≤ length line)
  stop_is h (Some e) f = stop_at e (first_at f refl)
  stop_is h None f = stop_none h (sym f.0)
