-- What is handed out of the numbers of a text, by the lengths of the lent slices.
use mathlib.Core.Path.{◌≡◌, ap₂, ◌∙◌}
use mathlib.Core.List.{List}
use Prim.Native.Nat.{ℕ, ◌+◌, ◌-◌, ◌*◌}
use native.Mathlib.Omega.{arith}
use borrow.Author.Tests.{eqb-true}
use lib.IntN.{ℤ}
use lib.ListN.{length, take, drop}
use lib.Seq.{paste}
use Rattle.std.specs.Prelude.{Result, Ok, Err}
use Rattle.outcome.specs.declared.Ending.TheVariants.{Done}
use Rattle.outcome.specs.declared.Refusal.{Refusal}
use Rattle.outcome.specs.declared.Refusal.TheVariants as refusal
use Rattle.outcome.specs.Run.{and_then, Returned, returned, ended}
use Rattle.inputs.specs.Tests.{lengths, tested}
use Rattle.inputs.proofs.Tests.{both_pass, need_pass}
use Rattle.inputs.proofs.Copy.{fronted}
use Rattle.text.specs.declared.internal.lines.Heading.{Heading}
use Rattle.text.specs.Text.{reading}
use Rattle.text.specs.Call.{Lent, lent, room, read}
use Rattle.text.specs.Code.{reading_is, handed}

-- ---- by the test of the lengths
module _ (n : ℕ) (t : List ℤ) (l : Lent) where
  pub handed_not : {o : Refusal} → room l ≡ Err o → returned (Err o) 0 l ≡ handed n t l
  unfolding handed tested ended
  handed_not e = rw e

  -- those of B stand first, those of b after them
  pub handed_out : {m r : List ℤ} → room l ≡ Ok tt
      → (let a = take (2 * (n * n)) t in m ≡ paste l.matrix 0 a (length a))
      → (let b = take (2 * (n * n) + 2 * n - 2 * (n * n)) (drop (2 * (n * n)) t) in r ≡ paste l.right 0 b (length b))
      → returned (Ok Done) n (lent m r) ≡ handed n t l
  unfolding handed tested ended
  handed_out e g h =
      let d : 2 * (n * n) + 2 * n - 2 * (n * n) ≡ 2 * n = omega arith in
      rw e (ap₂ (λ x y. returned (Ok Done) n (lent x y)) (g ∙ fronted l.matrix (take (2 * (n * n)) t)) (rw d at h ∙ fronted l.right (take (2 * n) (drop (2 * (n * n)) t))))

pub roomy : (l : Lent) → room l ≡ Ok tt → (length l.matrix ≡ 2_048) × (length l.right ≡ 64)
unfolding lengths
roomy l e =
    let b = both_pass _ _ e in
    let c = both_pass _ _ b.1 in
    (eqb-true _ _ (need_pass _ (refusal.Length 1) b.0), eqb-true _ _ (need_pass _ (refusal.Length 2) c.0))

-- ---- by what the text was read as
module _ (s : List ℕ) (t : List ℤ) (l : Lent) {r : Result Heading Refusal} (e : reading_is s r t ≡ reading s) where
  pub read_handed : {h : Heading} {x : Returned Lent} → r ≡ Ok h → x ≡ handed h.count t l → x ≡ read s l
  unfolding handed read and_then
  read_handed f q = q ∙ rw (← e, f)

  pub read_faulty : {o : Refusal} → r ≡ Err o → returned (Err o) 0 l ≡ read s l
  unfolding read and_then ended
  read_faulty f = rw (← e, f)
