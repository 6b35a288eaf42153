-- The calculation by what the calls returned, the sheet by what the calculation returned, and the two calls.
use mathlib.Core.Path.{◌≡◌, refl, sym, ap, ap₂, ◌∙◌}
use mathlib.Core.Bool.{Bool, true, false, cond, ◌||◌}
use mathlib.Core.List.{List, ◌∷◌}
use Prim.Native.Nat.{ℕ, zero, suc, ◌+◌, ◌-◌, ◌*◌, ◌≤◌}
use native.Mathlib.Omega.{arith}
use borrow.Author.Tests.{eqb-true}
use lib.Dec.{eqb}
use lib.IntN.{ℤ, pos}
use lib.ListN.{length, take, drop, replicate, length-append}
use lib.Seq.{length-take-le}
use Rattle.std.specs.Prelude.{Result, Ok, Err, IfOk}
use Rattle.outcome.specs.declared.Ending.{Ending}
use Rattle.outcome.specs.declared.Ending.TheVariants.{Done, Spent}
use Rattle.outcome.specs.declared.Refusal.{Refusal}
use Rattle.outcome.specs.declared.Refusal.TheVariants as refusal
use Rattle.outcome.specs.Table.{Outcome, number_and_place}
use Rattle.outcome.specs.Run.{Run, refused, done, and_then, Returned, returned, answered, ended}
use Rattle.inputs.specs.Tests.{lengths, tested}
use Rattle.inputs.proofs.Tests.{both_pass, need_pass}
use Rattle.inputs.specs.System.{System, system}
use Rattle.elimination.specs.Call.{over_B}
use Rattle.sweep.specs.Calls.{sweep_call, call}
use Rattle.text.specs.Text.{Cellar, reading}
use Rattle.text.specs.Call.{over}
use Rattle.text.specs.Code.{system_of}
use Rattle.text.proofs.Refusal.{refused_eight}
use Rattle.report.specs.Sheet.{calculated, refusal}
use Rattle.report.specs.Call.{onward, calculation, solved, reached, sheet, sheet_or_refusal, printed_for, printed, room, reported, report, print, IsPrefixLen}
use Rattle.report.specs.Code.{word}

-- ---- an ending is 0 or 9, a refusal is neither
abbrev pub is_reached : Outcome → Bool
is_reached o = eqb (number_and_place o).number 0 || eqb (number_and_place o).number 9

pub ending_reached : (e : Ending) → is_reached (Ok e) ≡ true
ending_reached Done = refl
ending_reached Spent = refl

pub not_reached : (o : Refusal) → is_reached (Err o) ≡ false
not_reached refusal.Size = refl
not_reached (refusal.Length p) = refl
not_reached refusal.Allowed = refl
not_reached (refusal.Ends p) = refl
not_reached (refusal.ContainsZero p) = refl
not_reached (refusal.OutOfRange p) = refl
not_reached (refusal.Empty p) = refl
not_reached (refusal.Text p) = refl
not_reached refusal.Sums = refl
not_reached refusal.NotDue = refl
not_reached refusal.NoComponent = refl
not_reached (refusal.OutOfMatrix p) = refl
not_reached (refusal.OutOfOrder p) = refl

not_done : (o : Refusal) → eqb (number_and_place (Err o)).number 0 ≡ false
not_done o = go (eqb (number_and_place (Err o)).number 0) refl (not_reached o)
  where
    go : (b : Bool) → eqb (number_and_place (Err o)).number 0 ≡ b → (b || eqb (number_and_place (Err o)).number 9) ≡ false → eqb (number_and_place (Err o)).number 0 ≡ false
    go true e f = cc f
    go false e f = e

-- ---- by what the elimination answered
module _ (s : System) (X : List ℤ) (r : Result (Unit {0}) Refusal) (y : List ℤ) (e : answered r y ≡ over_B s X) where
  pub calculation_swept : {u : Unit {0}} → r ≡ Ok u → call s (sweep_call 100) y ≡ calculation s X
  unfolding calculation onward
  calculation_swept f = rw (← e, f)

  pub calculation_refused : {o : Refusal} → r ≡ Err o → returned (Err o) 0 y ≡ calculation s X
  unfolding calculation onward
  calculation_refused {o} f = rw (← e, f, not_done o)

-- ---- the numbers of B and of b, and the lent noughts
pub parts_system : (n : ℕ) (t : List ℤ) → system n (take (2 * (n * n)) t) (take (2 * (n * n) + 2 * n - 2 * (n * n)) (drop (2 * (n * n)) t)) ≡ system_of n t
parts_system n t =
    let d : 2 * (n * n) + 2 * n - 2 * (n * n) ≡ 2 * n = omega arith in
    ap (λ k. system n (take (2 * (n * n)) t) (take k (drop (2 * (n * n)) t))) d

pub take_noughts : (k m : ℕ) → k ≤ m → take k (replicate m (pos 0)) ≡ replicate k (pos 0)
take_noughts zero m h = refl
take_noughts (suc k) zero h = absurd (omega arith)
take_noughts (suc k) (suc m) h = ap (λ l. pos 0 ∷ l) (take_noughts k m (omega arith))

-- ---- the sheet, by how the calculation ended
module _ (names : List ℕ) (n : ℕ) (out : List ℕ) (k : ℕ) (x : List ℤ) where
  pub reported_ended : (e : Ending) {c : ℕ} {after s : List ℕ} → s ≡ calculated names n x (word e) k → c ≡ length s → after ≡ over s out
      → returned (Ok e) c after ≡ reported names n out (returned (Ok e) k x)
  unfolding reported reached sheet
  reported_ended Done e f g = rw (f, g, e)
  reported_ended Spent e f g = rw (f, g, e)

  pub reported_refused : (o : Refusal) → returned (Err o) 0 out ≡ reported names n out (returned (Err o) k x)
  unfolding reported reached
  reported_refused o = rw (not_reached o)

-- ---- the test of the length
pub room_long : (out : List ℕ) → room out ≡ Ok tt → length out ≡ 2048
unfolding lengths
room_long out e = eqb-true _ _ (need_pass _ (refusal.Length 3) (both_pass _ _ e).0)

pub room_fits : (out : List ℕ) (r : Result (Unit {0}) Refusal) → r ≡ room out → IfOk r (λ _. length out ≡ 2048)
room_fits out (Ok u) e = room_long out (sym e)
room_fits out (Err o) e = tt

-- ---- `report`, by what the text was read as
module _ (text out : List ℕ) where
  pub report_faulty : {o : Refusal} → reading text ≡ refused o → returned (Err o) 0 out ≡ report text out
  unfolding report and_then ended
  report_faulty e = rw e

  module _ {c : Cellar} (e : reading text ≡ done c) where
    pub report_short : {o : Refusal} → room out ≡ Err o → returned (Err o) 0 out ≡ report text out
    unfolding report and_then ended tested
    report_short f = rw (e, f)

    pub report_solved : room out ≡ Ok tt → reported c.names c.balance.size out (solved c.balance) ≡ report text out
    unfolding report and_then ended tested
    report_solved f = rw (e, f)

-- ---- `print`, by what `report` returned
-- what was written, of all that is printed
abbrev Told : (printed out : List ℕ) → Bool → Outcome → ℕ → List ℕ → Type 0
Told s out true o k after = (k ≡ length s) × (after ≡ over s out)
Told s out false o k after = (refusal (number_and_place o).number (number_and_place o).place ≡ s) × (after ≡ out)

told_by : (names : List ℕ) (n : ℕ) (out : List ℕ) (r : Returned (List ℤ)) (o : Outcome) (k : ℕ) (after : List ℕ)
    → returned o k after ≡ reported names n out r → Told (sheet_or_refusal names n r) out (is_reached o) o k after
unfolding reported reached sheet_or_refusal
told_by names n out r o k after e =
    let number : (number_and_place o).number ≡ r.number = ap (λ q. q.number) e in
    rw number (go (eqb r.number 0 || eqb r.number 9) (ap (λ q. q.count) e) (ap (λ q. q.left) e) (ap₂ refusal number (ap (λ q. q.place) e)))
  where
    s : List ℕ
    s = sheet names n r

    go : (b : Bool) → k ≡ cond b (length s) 0 → after ≡ cond b (over s out) out
        → refusal (number_and_place o).number (number_and_place o).place ≡ refusal r.number r.place
        → Told (cond b s (refusal r.number r.place)) out b o k after
    go true f g h = (f, g)
    go false f g h = (h, g)

module _ (text out : List ℕ) where
  told : (o : Outcome) (k : ℕ) (after : List ℕ) → room out ≡ Ok tt → returned o k after ≡ report text out → Told (printed text) out (is_reached o) o k after
  unfolding printed report and_then ended tested
  told o k after l e = go (reading text) refl (rw l at e)
    where
      go : (q : Run Cellar) → reading text ≡ q
          → returned o k after ≡ ended (λ c. reported c.names c.balance.size out (solved c.balance)) out (and_then q (λ c. tested (Ok tt) (done c)))
          → Told (printed_for q) out (is_reached o) o k after
      go (refused f) h g =
          let number : (number_and_place o).number ≡ 8 = ap (λ q. q.number) g ∙ refused_eight text h in
          rw number (ap₂ refusal (ap (λ q. q.number) g) (ap (λ q. q.place) g), ap (λ q. q.left) g)
      go (done c) h g = told_by c.names c.balance.size out (solved c.balance) o k after g

  pub print_short : {o : Refusal} → room out ≡ Err o → returned (Err o) 0 out ≡ print text out
  unfolding print tested ended
  print_short e = rw e

  module _ (w : room out ≡ Ok tt) (o : Outcome) (k : ℕ) (after : List ℕ) (e : returned o k after ≡ report text out) where
    print_all : {m : ℕ} {end : List ℕ} → m ≡ length (printed text) → end ≡ over (printed text) out → (returned (Ok Done) m end ≡ print text out) × IsPrefixLen m end
    unfolding print tested ended
    print_all {m} {end} f g =
        let h : m ≤ length end = rw (f, g) (omega (arith, length-append (printed text) (drop (length (printed text)) out))) in
        (rw w (λ i. returned (Ok Done) (f i) (g i)), (h, sym (length-take-le m end h)))

    pub print_reached : is_reached o ≡ true → (returned (Ok Done) k after ≡ print text out) × IsPrefixLen k after
    print_reached h =
        let t = rw h at (told o k after w e) in
        print_all t.0 t.1

    pub print_refused : {s : List ℕ} {m : ℕ} {end : List ℕ} → is_reached o ≡ false → s ≡ refusal (number_and_place o).number (number_and_place o).place → m ≡ length s → end ≡ over s after
        → (returned (Ok Done) m end ≡ print text out) × IsPrefixLen m end
    print_refused h f g i =
        let t = rw h at (told o k after w e) in
        print_all (g ∙ ap length (f ∙ t.0)) (i ∙ ap₂ (λ a b. over a b) (f ∙ t.0) t.1)
