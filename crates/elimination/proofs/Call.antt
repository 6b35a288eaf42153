-- The working copy of a call, and the whole calculation from its parts.
use mathlib.Core.Path.{◌≡◌, ◌∙◌}
use mathlib.Core.List.{List, ◌++◌}
use Prim.Native.Nat.{ℕ, ◌+◌, ◌*◌, ◌≤◌, ◌<◌}
use native.Mathlib.Omega.{arith}
use native.Mathlib.Decide.{dec_lt}
use lib.IntN.{ℤ, pos}
use lib.ListN.{length, take, drop, replicate, get_or, length-append, length-drop, length-replicate, get_or-replicate, get_or-eq_default}
use lib.Seq.{get_or-drop}
use Rattle.outcome.specs.declared.Refusal.{Refusal}
use Rattle.outcome.specs.Run.{Run, refused, done, and_then, ended}
use Rattle.inputs.specs.System.{System, system}
use Rattle.inputs.specs.Code.{Ended}
use Rattle.inputs.proofs.Tests.{square}
use Rattle.inputs.proofs.System.{Ready}
use Rattle.inputs.proofs.Place.{sound_append, sound_noughts}
use Rattle.rows.specs.Sum.{once}
use Rattle.forward.specs.Pivot.{lowest_row}
use Rattle.forward.specs.Forward.{Table, table, forward}
use Rattle.elimination.specs.Back.{back}
use Rattle.elimination.specs.Call.{copied, box, none_taken, solved}
use Rattle.forward.specs.Code.{Working}
use Rattle.std.specs.Prelude.{Result, Ok, Err, IsErrAnd}
use Rattle.outcome.proofs.Run.{carried}

-- ---- the working copy
noughts : (i : ℕ) → get_or (replicate 2112 (pos 0)) i (pos 0) ≡ pos 0
noughts i = go (dec_lt i 2112)
  where
    go : Dec (i < 2112) → get_or (replicate 2112 (pos 0)) i (pos 0) ≡ pos 0
    go (yes h) = get_or-replicate 2112 i (pos 0) (pos 0) h
    go (no h) = get_or-eq_default (replicate 2112 (pos 0)) (pos 0) {n = i} (rw (length-replicate 2112 (pos 0)) (omega (arith, h)))

pub copied_is : (n : ℕ) (a f : List ℤ) {t : List ℤ} → t ≡ a ++ (f ++ drop (length a + length f) (replicate 2112 (pos 0))) → t ≡ copied (system n a f)
unfolding copied
copied_is n a f e = e

module _ (s : System) (l : ℕ) (r : Ready s l) where
  pub copied_fits : length s.matrix + length s.right ≤ 2112
  copied_fits = let g = r.fitting in omega (arith, g.few, g.matrix, g.right, square s.size g.few)

  copied_length : length (copied s) ≡ 2112
  unfolding copied
  copied_length = simp (length-append, length-drop, length-replicate) (omega (arith, copied_fits))

  pub copied_working : Working s.size (copied s)
  unfolding copied
  copied_working =
      let g = r.fitting in
      let k = length s.matrix + length s.right in
      record {
        few = g.few;
        room = omega (arith, copied_length, g.few, square s.size g.few);
        sound = sound_append s.matrix _ (s.size * s.size) g.matrix r.proper.matrix
            (sound_append s.right _ s.size g.right r.proper.right
            (sound_noughts _ (λ i. get_or-drop k (replicate 2112 (pos 0)) i (pos 0) ∙ noughts (k + i))));
      }

-- ---- the calculation from its parts
module _ (n : ℕ) (t x : List ℤ) where
  pub ended_forward : {o : Refusal} → forward lowest_row n (table t none_taken) ≡ refused o → Ended (solved lowest_row once n t) (Err o) x x
  unfolding solved and_then ended
  ended_forward e = record { is = rw e }

  module _ {s : Table} (e : forward lowest_row n (table t none_taken) ≡ done s) where
    pub ended_back : {o : Refusal} → back once n n s.numbers ≡ refused o → Ended (solved lowest_row once n t) (Err o) x x
    unfolding solved and_then ended
    ended_back f = record { is = rw (e, f) }

    pub ended_done : {t₁ y : List ℤ} → back once n n s.numbers ≡ done t₁ → length x ≡ 2 * n → y ≡ take (length x) (drop (2 * (n * n)) t₁) → Ended (solved lowest_row once n t) (Ok tt) x y
    unfolding solved and_then box ended
    ended_done f l g = record { is = rw (e, f, ← l, g) }

-- a refusal that `?` hands on
pub handed_on : {run : Run (List ℤ)} {r : Result (Unit {0}) Refusal} {o : Refusal} {x : List ℤ} → IsErrAnd r (λ p. p ≡ o) → Ended run (Err o) x x → Ended run r x x
handed_on h e = rw (carried _ _ h) e

-- a part that stops ends the whole
pub ended_stop : {r : Run (List ℤ)} {o : Refusal} (f : List ℤ → Run (List ℤ)) (x : List ℤ) → r ≡ refused o → Ended (and_then r f) (Err o) x x
unfolding and_then ended
ended_stop f x e = record { is = rw e }

pub ended_on : {r : Run (List ℤ)} {o : Result (Unit {0}) Refusal} {t : List ℤ} (f : List ℤ → Run (List ℤ)) {x y : List ℤ} → r ≡ done t → Ended (f t) o x y → Ended (and_then r f) o x y
unfolding and_then
ended_on f e h = rw e h
