-- What each way through the code says of a vat's name.
use mathlib.Core.Path.{◌≡◌, sym, ap, ◌∙◌}
use mathlib.Core.List.{List, []}
use mathlib.Core.Logic.{◌⊎◌, inl, inr}
use Prim.Native.Nat.{ℕ, ◌+◌, ◌-◌, ◌≤◌, ◌<◌}
use native.Mathlib.Omega.{arith}
use native.Mathlib.Nat.{zero-add}
use borrow.Author.Tests.{le-leb, lt-leb}
use lib.ListN.{length, take, drop, length-drop}
use lib.Seq.{length-take-le}
use Rattle.outcome.specs.declared.Refusal.{Refusal}
use Rattle.outcome.specs.Run.{refused}
use Rattle.text.specs.declared.internal.lines.Heading.{Heading}
use Rattle.text.specs.Parts.{fields, part, start_of}
use Rattle.text.specs.Text.{head}
use Rattle.text.specs.Call.{nowhere, bytes_of, name_span}
use Rattle.text.specs.Code.{Headed}

module _ (s : List ℕ) (v : ℕ) where
  pub name_none : {o : Refusal} → head s ≡ refused o → nowhere ≡ name_span s v
  unfolding name_span
  name_none e = rw e

  module _ {h : Heading} (w : Headed s h) where
    pub name_outside : (v < 1) ⊎ ((1 ≤ v) × (h.count < v)) → nowhere ≡ name_span s v
    unfolding name_span
    name_outside (inl k) = rw (w.is, lt-leb 1 v k)
    name_outside (inr k) =
        let m : length (fields (take h.stop s)) < v = rw w.counted at k.1 in
        rw (w.is, le-leb 1 v k.0, lt-leb v (length (fields (take h.stop s))) m)

    pub name_span_lem : 1 ≤ v → v ≤ h.count → (a e : ℕ) → a ≡ start_of (fields (take h.stop s)) (v - 1)
        → part (fields (drop a (take h.stop s))) 0 ≡ part (fields (take h.stop s)) (v - 1)
        → e ≡ a + length (part (fields (drop a (take h.stop s))) 0) → record { start = a; size = e - a } ≡ name_span s v
    unfolding name_span
    name_span_lem k g a e f p q =
        let m : v ≤ length (fields (take h.stop s)) = rw w.counted at g in
        let d : e - a ≡ length (part (fields (take h.stop s)) (v - 1)) = omega (arith, q, ap length p) in
        rw (w.is, le-leb 1 v k, le-leb v (length (fields (take h.stop s))) m, ← f, ← d)

  -- the part handed back: its start in the text, its length, its bytes
  pub empty_part : (p : ℕ × ℕ) → nowhere ≡ name_span s v
      → (p ≡ (p.0, (name_span s v).start + p.1)) × ((0 ≡ (name_span s v).size) × ([] ≡ bytes_of s (name_span s v)))
  empty_part p q =
      let z : ◌≡◌ {A = ℕ × ℕ} (p.0, 0 + p.1) (p.0, p.1) = λ i. (p.0, zero-add p.1 i) in
      (sym z ∙ ap (λ x. (p.0, x.start + p.1)) q, (ap (λ x. x.size) q, ap (bytes_of s) q))

  pub named_part : (p : ℕ × ℕ) (a e : ℕ) → e ≤ length s → record { start = a; size = e - a } ≡ name_span s v
      → (◌≡◌ {A = ℕ × ℕ} (p.0, a + p.1) (p.0, (name_span s v).start + p.1))
      × ((length (take (e - a) (drop a s)) ≡ (name_span s v).size) × (take (e - a) (drop a s) ≡ bytes_of s (name_span s v)))
  named_part p a e h q = (
    ap (λ x. (p.0, x.start + p.1)) q,
    (length-take-le (e - a) (drop a s) (omega (arith, length-drop a s)) ∙ ap (λ x. x.size) q, ap (bytes_of s) q),
  )
