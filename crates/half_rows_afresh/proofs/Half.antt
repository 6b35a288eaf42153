-- A half pass with kept sums that are fresh is one way of the pass there and back, and the sums that it works out are fresh.
use mathlib.Core.Path.{◌≡◌, refl, ◌∙◌}
use mathlib.Core.Bool.{Bool, true, false, not, cond}
use mathlib.Core.List.{List, ◌∷◌}
use Prim.Native.Nat.{ℕ, zero, suc, ◌+◌, ◌*◌, ◌≤◌, ◌<◌}
use native.Mathlib.Omega.{arith}
use native.Mathlib.Decide.{ℕ_discrete}
use native.Mathlib.Nat.{zero-add, le_refl}
use lib.IntN.{ℤ}
use lib.ListN.{length}
use Rattle.std.specs.Prelude.{Ok}
use Rattle.outcome.specs.declared.Refusal.TheVariants as refusal
use Rattle.outcome.specs.Run.{Run, refused, done}
use Rattle.interval.specs.declared.Interval.{Interval}
use Rattle.interval.specs.Interval.{is_empty}
use Rattle.inputs.specs.Place.{put, cell}
use Rattle.inputs.specs.Tests.{proper}
use Rattle.inputs.specs.Code.{Sound}
use Rattle.inputs.specs.System.{System}
use Rattle.inputs.proofs.Tests.{proper_all}
use Rattle.half_rows.proofs.Row.{at_part}
use Rattle.rows.specs.Sum.{once}
use Rattle.kept_sums.specs.Kept.{put_sum}
use Rattle.kept_sums.proofs.Kept.{length_put_sum}
use Rattle.sweep.specs.Pass.{component, along}
use Rattle.sweep.specs.Code.{Ready}
use Rattle.sweep.proofs.Pass.{ready_put}
use Rattle.half_rows.specs.Rows.{beside, begin, side, of_state, half_row, Worked, components, half_along}
use Rattle.half_rows_afresh.proofs.Sums.{component_joined}
use Rattle.half_rows_afresh.proofs.Kept.{Kept, AllKept, kept_put_same, kept_put_other, kept_unread}
use Rattle.half_rows_afresh.proofs.Way.{left, turn, Ahead, Passed, left_all, left_none, passed_all, passed_none, left_next, turn_below, turn_ahead, ahead_before, passed_before, ahead_unread, passed_unread}

-- ---- the shares of half a row pass their test
pub sound_proper : (t : List ℤ) → Sound t → (d p from : ℕ) → proper t d p from ≡ Ok tt
sound_proper t h d p from = proper_all t d p from (λ k l. h.each (p + k))

row_proper : (back : Bool) (s : System) (i : ℕ) → Sound s.matrix → proper (half_row back s i) (beside back s.size i + 1) 0 0 ≡ Ok tt
unfolding half_row
row_proper back s i h =
    proper_all _ _ 0 0
    (λ k l. rw (zero-add k, at_part s.matrix (cell s.size i (begin back i)) (beside back s.size i + 1) k l) (h.each _))

module _ (back : Bool) (s : System) where
  -- ---- how a half pass ended, beside one way of the pass
  pub record Left (Y F : List ℤ) : Type 0 where
    pub ready : Ready s.size s.matrix s.right Y
    pub kept : AllKept back s Y F

  abbrev pub Agrees : Run Worked → Run (List ℤ) → Type 0
  Agrees (refused o) r = r ≡ refused o
  Agrees (done w) r = (r ≡ done w.box) × Left w.box w.sums

  module _ (K : List ℤ) where
    -- ---- one component
    half_step : (i : ℕ) (is : List ℕ) (X F : List ℤ) → i < s.size → Sound s.matrix → Kept (not back) s X K i
        → half_along back s K (i ∷ is) X F ≡
        cond (is_empty (component once s X i)) (refused (refusal.Empty (i + 1)))
        (half_along back s K is (put X i (component once s X i)) (put_sum F i (side back s X i)))
    unfolding half_along of_state
    half_step i is X F h a k = rw (row_proper back s i a, k.ready, k.is, component_joined s X i back h)

    -- ---- those that are left
    rest_agrees : (d : ℕ) → d ≤ s.size → (X F : List ℤ) → Ready s.size s.matrix s.right X → length F ≡ 4 * s.size
        → ((j : ℕ) → j < s.size → Ahead back s.size d j → Kept (not back) s X K j)
        → ((j : ℕ) → j < s.size → Passed back s.size d j → Kept back s X F j)
        → Agrees (half_along back s K (left back s.size d) X F) (along once s (left back s.size d) X)
    unfolding half_along along
    rest_agrees zero h X F w l k f =
        rw (left_none back s.size) (refl, record { ready = w; kept = record { long = l; each = λ j g. f j g (passed_all back s.size j g) } })
    rest_agrees (suc d) h X F w l k f =
        rw (left_next s.size d h back, half_step i (left back s.size d) X F below w.matrix_sound (k i below (turn_ahead s.size d h back)))
        (go (is_empty v) refl (λ e. rest_agrees d (omega arith) (put X i v) F' (ready_put once w i below e) (length_put_sum F i _ ∙ l)
        (λ j g a. kept_unread (not back) s X K j i v (ahead_unread s.size d h j back a) (k j g (ahead_before s.size d h j back a)))
        (λ j g a. kept_unread back s X F' j i v (passed_unread s.size d h j back a) (passed j g a (ℕ_discrete j i)))))
      where
        i : ℕ
        i = turn back s.size d

        below : i < s.size
        below = turn_below s.size d h back

        v : Interval
        v = component once s X i

        F' : List ℤ
        F' = put_sum F i (side back s X i)

        passed : (j : ℕ) → j < s.size → Passed back s.size d j → Dec (j ≡ i) → Kept back s X F' j
        passed j g a (yes e) = rw e (kept_put_same back s X F i refl w.few w.matrix_sound w.box_sound l below)
        passed j g a (no e) = kept_put_other back s X F i j _ e (f j g (passed_before s.size d h j back a e))

        go : (b : Bool) → is_empty v ≡ b
            → (is_empty v ≡ false → Agrees (half_along back s K (left back s.size d) (put X i v) F') (along once s (left back s.size d) (put X i v)))
            → Agrees (cond b (refused (refusal.Empty (i + 1))) (half_along back s K (left back s.size d) (put X i v) F'))
            (cond b (refused (refusal.Empty (i + 1))) (along once s (left back s.size d) (put X i v)))
        go true e r = refl
        go false e r = r e

    -- ---- all of them
    pub half_agrees : (X F : List ℤ) → Ready s.size s.matrix s.right X → length F ≡ 4 * s.size
        → AllKept (not back) s X K
        → Agrees (half_along back s K (components back s.size) X F) (along once s (components back s.size) X)
    half_agrees X F w l k =
        rw (← (left_all back s.size))
        (rest_agrees s.size (le_refl s.size) X F w l (λ j g a. k.each j g) (λ j g a. absurd (passed_none back s.size j g a)))
