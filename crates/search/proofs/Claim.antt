-- A search gives the place of the first byte sought, and 'none' exactly if there is none.
use mathlib.Core.Path.{◌≡◌, refl, sym, ap, subst, ◌∙◌}
use mathlib.Core.Logic.{◌≢◌}
use mathlib.Core.List.{List}
use Prim.Native.Nat.{ℕ, zero, suc, ◌+◌, ◌≤◌, ◌<◌}
use native.Mathlib.Decide.{ℕ_discrete, dec_lt}
use native.Mathlib.Omega.{arith}
use lib.ListN.{length, get_or}
use Rattle.std.specs.Prelude.{Option, Some, None}
use Rattle.search.specs.First.{first_from, within}
use Rattle.search.specs.Claim.{Stands, First, FirstByte}
use Rattle.search.proofs.Turn.{there, not_there, past}

module _ (s : List ℕ) (b : ℕ) where
  -- what an answer says
  abbrev Says : (from : ℕ) → Option ℕ → Type 0
  Says from (Some e) = First s from b e
  Says from None = (i : ℕ) → Stands s from b i → ⊥

  -- b does not stand at `from`
  later : (from i : ℕ) → get_or s from 0 ≢ b → Stands s from b i → Stands s (from + 1) b i
  later from i n t = go (ℕ_discrete i from)
    where
      go : Dec (i ≡ from) → Stands s (from + 1) b i
      go (yes e) = absurd (n (subst (λ j. get_or s j 0 ≡ b) e t.sought))
      go (no e) = record { not_before = omega (arith, t.not_before, e); inside = t.inside; sought = t.sought }

  says_later : (from : ℕ) (r : Option ℕ) → get_or s from 0 ≢ b → Says (from + 1) r → Says from r
  says_later from (Some e) n f =
      let t = f.stands in
      record { stands = record { not_before = omega (arith, t.not_before); inside = t.inside; sought = t.sought }; lowest = λ i q. f.lowest i (later from i n q) }
  says_later from None n f = λ i q. f i (later from i n q)

  here : (from : ℕ) → from < length s → get_or s from 0 ≡ b → First s from b from
  here from h e = record { stands = record { not_before = omega arith; inside = h; sought = e }; lowest = λ i q. q.not_before }

  -- d bytes at most are left
  says : (d from : ℕ) → length s ≤ from + d → Says from (first_from s from b)
  says zero from h = subst (Says from) (sym (past s b from (omega arith))) (λ i q. absurd (omega (arith, q.not_before, q.inside)))
  says (suc d) from h = go (dec_lt from (length s)) (ℕ_discrete (get_or s from 0) b) (says d (from + 1))
    where
      go : Dec (from < length s) → Dec (get_or s from 0 ≡ b) → (length s ≤ from + 1 + d → Says (from + 1) (first_from s (from + 1) b)) → Says from (first_from s from b)
      go (no l) t r = subst (Says from) (sym (past s b from (omega (arith, l)))) (λ i q. absurd (omega (arith, l, q.not_before, q.inside)))
      go (yes l) (yes e) r = subst (Says from) (sym (there s b from l e)) (here from l e)
      go (yes l) (no e) r = subst (Says from) (sym (not_there s b from l e)) (says_later from (first_from s (from + 1) b) e (r (omega arith)))

  said : (from : ℕ) (r : Option ℕ) → first_from s from b ≡ r → Says from r
  said from r e = subst (Says from) e (says (length s) from (omega arith))

  -- a place that is found lies in s
  pub first_within : (from : ℕ) → within s from (first_from s from b)
  first_within from = go (first_from s from b) refl
    where
      go : (r : Option ℕ) → first_from s from b ≡ r → within s from r
      go (Some e) q = let t = (said from (Some e) q).stands in (t.not_before, t.inside)
      go None q = tt

  -- there is one first place
  place_of : (from e : ℕ) → First s from b e → (r : Option ℕ) → first_from s from b ≡ r → first_from s from b ≡ Some e
  place_of from e f (Some j) q =
      let g : First s from b j = said from (Some j) q in
      let same : j ≡ e = omega (arith, f.lowest j g.stands, g.lowest e f.stands) in
      q ∙ ap Some same
  place_of from e f None q = absurd (said from None q e f.stands)

  none_of : (from : ℕ) → ((i : ℕ) → Stands s from b i → ⊥) → (r : Option ℕ) → first_from s from b ≡ r → first_from s from b ≡ None
  none_of from n (Some j) q = absurd (n j (said from (Some j) q).stands)
  none_of from n None q = q

pub first_byte : FirstByte
first_byte = record { place = λ s from b e. (said s b from (Some e), λ f. place_of s b from e f _ refl); none = λ s from b. (said s b from None, λ n. none_of s b from n _ refl) }
