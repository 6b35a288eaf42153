-- What each way through the code says of line 1 and of the whole text.
use mathlib.Core.Path.{◌≡◌, refl, sym, ap, ap₂, ◌∙◌}
use mathlib.Core.Bool.{Bool, true, false, cond}
use mathlib.Core.List.{List, [], ◌∷◌}
use Prim.Native.Nat.{ℕ, ◌+◌, ◌*◌, ◌≤◌, ◌<◌}
use native.Mathlib.Omega.{arith}
use native.Mathlib.Nat.{sub-zero}
use borrow.Author.Tests.{le-leb, lt-leb}
use lib.IntN.{ℤ}
use lib.ListN.{length, take, drop}
use lib.Seq.{take-take, take-add, drop_at, length-take-le}
use Rattle.std.specs.Prelude.{Option, Some, None, ok_or, Result, Ok, Err}
use Rattle.outcome.specs.declared.Refusal.{Refusal}
use Rattle.outcome.specs.Run.{Run, refused, done, and_then, run_of}
use Rattle.inputs.specs.System.{system}
use Rattle.inputs.proofs.Tests.{square}
use Rattle.text.specs.declared.internal.lines.Heading.{Heading}
use Rattle.text.specs.Parts.{parts, fields}
use Rattle.text.specs.Names.{are_names}
use Rattle.text.specs.Text.{faulty, Head, first_line, head, rows_from, Cellar, after_head, reading}
use Rattle.search.specs.First.{first_from}
use Rattle.text.specs.Code.{names_of, Few, Heads, Headed, reading_is}
use Rattle.std.proofs.lemmas.Option.{cond_some}
use Rattle.text.proofs.Parts.{parts_at, parts_none, parts_some}
use Rattle.text.proofs.Lines.{row_after}

-- ---- a line of names, from the answer of its reader
count_not : (b : Bool) (m : ℕ) → cond b (Some m) None ≡ None → b ≡ false
count_not true m e = cc
count_not false m e = refl

-- ---- where something is missing, `?` hands on the refusal that stands for it
pub lost : {A : Type 0} {r : Option A} {o p : Refusal} → r ≡ None → Err o ≡ ok_or r p → o ≡ p
lost {r = r} {o} {p} e f = let g : ok_or r p ≡ Err p = rw e in cc (f, g)

pub heads_refused : (s : List ℕ) {r : Result Heading Refusal} {o p : Refusal} → r ≡ Err o → o ≡ p → head s ≡ refused p → Heads s r
heads_refused s e f g = rw (e, f) g

-- ---- line 1
module _ (s : List ℕ) where
  pub head_long : 65_536 < length s → head s ≡ faulty 0
  unfolding head
  head_long h = rw (lt-leb (length s) 65_536 h)

  module _ (h : length s ≤ 65_536) where
    pub head_unended : first_from s 0 10 ≡ None → head s ≡ faulty 1
    unfolding head first_line
    head_unended f = rw (le-leb (length s) 65_536 h, parts_none s 0 10 f)

    module _ {e : ℕ} (f : first_from s 0 10 ≡ Some e) where
      head_by : head s ≡ cond (are_names (fields (take e s))) (done (record { names = take e s; rest = parts 10 (drop (e + 1) s) })) (faulty 1)
      unfolding head first_line
      head_by = rw (le-leb (length s) 65_536 h, parts_at s 0 10 e f, sub-zero e) (more (parts 10 (drop (e + 1) s)) (parts_some 10 (drop (e + 1) s)))
        where
          more : (ps : List (List ℕ)) → 1 ≤ length ps → first_line (take e s ∷ ps) ≡ cond (are_names (fields (take e s))) (done (record { names = take e s; rest = ps })) (faulty 1)
          more [] k = absurd (omega arith)
          more (p ∷ ps) k = refl

      pub head_faulty : names_of (take e s) ≡ None → head s ≡ faulty 1
      unfolding names_of
      head_faulty q = let b = count_not (are_names (fields (take e s))) (length (fields (take e s))) q in head_by ∙ rw b

      pub head_named : {n : ℕ} → names_of (take e s) ≡ Some n → Few (take e s) (Some n) → e < length s → Headed s (record { count = n; stop = e })
      unfolding names_of
      head_named {n} q w k =
          let b = cond_some (are_names (fields (take e s))) (length (fields (take e s))) n q in
          record {
            is = head_by ∙ rw b.0;
            counted = sym b.1;
            some = w.0;
            few = w.1;
            short = omega (arith, w.2, length-take-le e s (omega arith));
            inside = k;
          }

-- ---- the whole text
pub text_head : (s : List ℕ) {o : Refusal} → head s ≡ refused o → refused o ≡ reading s
unfolding reading and_then
text_head s e = rw e

-- the numbers of b after those of B
split : (n : ℕ) (t : List ℤ) → n ≤ 32 → length t ≡ 2112
    → (take (2 * (n * n)) t ≡ take (2 * (n * n)) (take (2 * ((n + 1) * n)) t)) × (take (2 * n) (drop (2 * (n * n)) t) ≡ drop (2 * (n * n)) (take (2 * ((n + 1) * n)) t))
split n t h l =
    let w : 2 * ((n + 1) * n) ≡ 2 * (n * n) + 2 * n = omega (arith, row_after n n) in (
      sym (take-take (2 * (n * n)) (2 * ((n + 1) * n)) t (omega arith)),
      sym (ap (λ m. drop (2 * (n * n)) (take m t)) w ∙ ap (drop (2 * (n * n))) (take-add (2 * (n * n)) (2 * n) t)
          ∙ drop_at (take (2 * (n * n)) t) (take (2 * n) (drop (2 * (n * n)) t)) (2 * (n * n)) (length-take-le (2 * (n * n)) t (omega (arith, square n h)))),
    )

module _ {s : List ℕ} {h : Heading} (w : Headed s h) where
  -- line 1 lies in the text
  pub stops : length (take h.stop s) ≡ h.stop
  stops = length-take-le h.stop s (omega (arith, w.inside))

  abbrev first : Head
  first = record { names = take h.stop s; rest = parts 10 (drop (h.stop + 1) s) }

  reading_by : reading s ≡ after_head h.count first
  unfolding reading and_then
  reading_by = rw (w.is, w.counted)

  pub text_faulty : {o : Refusal} {r : Result (Unit {0}) Refusal} (z : List ℤ) → r ≡ Err o
      → run_of r z ≡ rows_from h.count (h.count + 1) 2 first.rest → refused o ≡ reading s
  unfolding and_then
  text_faulty z q e = sym (reading_by ∙ rw (← e, q))

  pub text_balance : {r : Result (Unit {0}) Refusal} {x : Unit {0}} (t : List ℤ) → length t ≡ 2112 → r ≡ Ok x
      → run_of r (take (2 * ((h.count + 1) * h.count)) t) ≡ rows_from h.count (h.count + 1) 2 first.rest
      → reading_is s (Ok h) t ≡ reading s
  unfolding and_then
  text_balance t l q e =
      let n = h.count in
      let p = split n t w.few l in
      ap₂ {C = Run Cellar} (λ m r. done (record { names = take h.stop s; balance = system n m r })) p.0 p.1 ∙ sym (reading_by ∙ rw (← e, q))
