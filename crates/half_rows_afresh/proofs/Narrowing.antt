-- The narrowing of one vat.
use mathlib.Core.Path.{◌≡◌, refl}
use mathlib.Core.Bool.{Bool, true, false, not, cond, ◌&&◌}
use mathlib.Core.List.{List}
use Prim.Native.Nat.{ℕ, ◌+◌, ◌-◌, ◌≤◌, ◌<◌}
use native.Mathlib.Omega.{arith}
use borrow.Author.Tests.{eq-eqb, leb-true}
use lib.Dec.{leb}
use lib.IntN.{ℤ}
use Rattle.outcome.specs.declared.Refusal.TheVariants as refusal
use Rattle.outcome.specs.Run.{refused, done, and_then}
use Rattle.interval.specs.declared.Interval.{Interval}
use Rattle.interval.specs.Interval.{acceptable, intersection, is_empty}
use Rattle.interval.proofs.Range.{and_both}
use Rattle.inputs.specs.Place.{at, put}
use Rattle.inputs.specs.System.{System}
use Rattle.inputs.proofs.Place.{length_put, sound_put}
use Rattle.sweep.specs.Code.{Ready}
use Rattle.sweep.proofs.Pass.{intersection_accepted, ready_after}
use Rattle.half_rows.specs.Rows.{first, beside, renew}
use Rattle.half_rows.specs.State.{size_of, with_box, with_sums}
use Rattle.half_rows.specs.Operations.{narrowed_to, narrowed_of, narrow_run}
use Rattle.half_rows.proofs.Calls.{due_some}
use Rattle.half_rows_afresh.specs.Afresh.{held, held_in, afresh_narrowing}
use Rattle.half_rows_afresh.proofs.Renewed.{renew_kept}
use Rattle.half_rows_afresh.proofs.Loaded.{Loaded, Good, blank, full, due_back, not_not, nothing_in, not_nought, loaded_in, written_loaded}
use Rattle.half_rows_afresh.proofs.Does.{Does, does_loaded}

-- ---- component v becomes what it has in common with w
module _ (back : Bool) {t : List ℤ} {s : System} {X K : List ℤ} (l : Loaded t s (not back) X K) (v : ℕ) (h : v < s.size) (w : Interval) where
  abbrev new : Interval
  new = intersection w (at X v)

  new_ready : is_empty new ≡ false → Ready s.size s.matrix s.right (put X v new)
  new_ready e =
      let r = l.ready in
      ready_after r (length_put X v _) (sound_put X v _ r.box_sound (omega (arith, r.box)) (intersection_accepted w (at X v) (r.box_sound.each v) e))

  narrowed_is : narrowed_to back t s.size v new ≡
      and_then (renew s v (at X v) new (beside back s.size v) (first back v) K) (λ F. done (with_sums (with_box t (put X v new)) (not back) F))
  unfolding narrowed_to
  narrowed_is =
      λ i. and_then (renew (l.system i) v (at (l.box i) v) new (beside back s.size v) (first back v) (l.sums i))
      (λ F. done (with_sums (with_box t (put (l.box i) v new)) (not back) F))

  narrowed_to_lem : is_empty new ≡ false → Does (narrowed_to back t s.size v new) (done (held s (not (not back)) (put X v new)))
  unfolding and_then
  narrowed_to_lem e =
      let r = new_ready e in
      let k = renew_kept back s X K v new r.few h l.ready.box r.matrix_sound r.box_sound l.kept in
      rw (narrowed_is, k.is) (does_loaded (written_loaded l r k.kept))

  narrowed_does : Does (narrowed_of back t s.size v w) (cond (is_empty new) (refused (refusal.Empty (v + 1))) (done (held s (not (not back)) (put X v new))))
  unfolding narrowed_of
  narrowed_does = rw (l.box, l.ready.box_sound.each v) (go (is_empty new) refl)
    where
      go : (b : Bool) → is_empty new ≡ b
          → Does (cond b (refused (refusal.Empty (v + 1))) (narrowed_to back t s.size v new)) (cond b (refused (refusal.Empty (v + 1))) (done (held s (not (not back)) (put X v new))))
      go true e = refl
      go false e = narrowed_to_lem e

-- ---- the tests before it
module _ (back : Bool) {t : List ℤ} {s : System} {X K : List ℤ} (l : Loaded t s (not back) X K) (vat : ℕ) (w : Interval) where
  loaded_does : Does (narrow_run vat w t) (afresh_narrowing vat w (held s (not (not back)) X))
  unfolding narrow_run afresh_narrowing
  loaded_does =
      rw (not_nought l, l.turn, due_some (not (not back)), due_back (not back), l.size, not_not back) (go (leb 1 vat && leb vat s.size) refl)
    where
      accepted : (b : Bool) → 1 ≤ vat → vat ≤ s.size
          → Does (cond b (narrowed_of back t s.size (vat - 1) w) (refused (refusal.Ends 0)))
          (cond b (cond (is_empty (intersection w (at X (vat - 1)))) (refused (refusal.Empty vat)) (done (held s back (put X (vat - 1) (intersection w (at X (vat - 1)))))))
          (refused (refusal.Ends 0)))
      accepted true h g =
          let e : vat - 1 + 1 ≡ vat = omega arith in
          rw (e, not_not back) at (narrowed_does back l (vat - 1) (omega arith) w)
      accepted false h g = refl

      go : (b : Bool) → (leb 1 vat && leb vat s.size) ≡ b
          → Does (cond b (cond (acceptable w) (narrowed_of back t s.size (vat - 1) w) (refused (refusal.Ends 0))) (refused refusal.NoComponent))
          (cond b (cond (acceptable w) (cond (is_empty (intersection w (at X (vat - 1)))) (refused (refusal.Empty vat)) (done (held s back (put X (vat - 1) (intersection w (at X (vat - 1)))))))
          (refused (refusal.Ends 0))) (refused refusal.NoComponent))
      go true e = let b = and_both (leb 1 vat) (leb vat s.size) e in accepted (acceptable w) (leb-true 1 vat b.0) (leb-true vat s.size b.1)
      go false e = refl

pub narrowing_does : (vat : ℕ) (w : Interval) (t : List ℤ) → Good t → Does (narrow_run vat w t) (afresh_narrowing vat w (held_in t))
unfolding narrow_run afresh_narrowing
narrowing_does vat w t (blank l e) = rw (nothing_in t e, eq-eqb (size_of t) 0 e)
narrowing_does vat w t (full s true X K l) = rw (loaded_in l) (loaded_does false l vat w)
narrowing_does vat w t (full s false X K l) = rw (loaded_in l) (loaded_does true l vat w)
