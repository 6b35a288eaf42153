-- What is printed reads back: numbers, bounds, a line of them, and the line on the sheet.
use mathlib.Core.Path.{◌≡◌, refl, sym, ap, subst, ◌∙◌}
use mathlib.Core.Bool.{Bool, true, false, cond, ◌||◌}
use mathlib.Core.Logic.{◌⊎◌, inl, inr}
use mathlib.Core.List.{List, [], ◌∷◌, ◌++◌, append-nil}
use Prim.Native.Nat.{ℕ, zero, suc, ◌+◌, ◌-◌, ◌*◌, ◌/◌, ◌%◌, ◌^◌, ◌≤◌, ◌<◌}
use native.Mathlib.Omega.{arith}
use native.Mathlib.Nat.{mod-lt, div-add-mod'}
use native.Mathlib.Numerals.{add-one}
use borrow.Author.Tests.{le-leb, eq-eqb, ne_eqb, eqb-true, eqb-false, ltb-true, ltb-false}
use lib.Dec.{T, ltb, leb, leb→le, eqb}
use lib.IntN.{ℤ, pos, negsuc}
use lib.ListN.{length, get_or, drop, replicate, drop_of_length-le}
use lib.Seq.{drop-cons}
use lib.Signed.{le_z}
use Rattle.std.specs.Prelude.{Some, None}
use Rattle.outcome.specs.Run.{Run, refused, done, and_then, Returned}
use Rattle.interval.specs.declared.Interval.{Interval}
use Rattle.interval.specs.Interval.{lowest, highest}
use Rattle.interval.proofs.Range.{Within, is_sound}
use Rattle.inputs.specs.Place.{at}
use Rattle.inputs.specs.System.{System}
use Rattle.elimination.specs.Call.{over_B}
use Rattle.elimination.proofs.Accepted.{never_spent_B}
use Rattle.sweep.specs.Calls.{sweep_call, call}
use Rattle.sweep.proofs.Kept.{call_keeps}
use Rattle.text.specs.Parts.{longer, parts, fields, part}
use Rattle.text.specs.Number.{is_digit, digits, plain, magnitude, below, number, both_ends, value, then, values}
use Rattle.text.specs.Names.{are_names}
use Rattle.text.specs.Text.{faulty, Head, first_line, head, rows_from, Cellar, cellar, after_head, reading}
use Rattle.text.proofs.Number.{magnitude_digits, number_plain}
use Rattle.report.specs.Decimal.{digit, digits_within, natural, decimal}
use Rattle.report.specs.Sheet.{bound, further, bounds, counted, calculated}
use Rattle.report.specs.Call.{onward, calculation, solved, reached, sheet, sheet_or_refusal, printed_for, printed}
use Rattle.report.specs.ReadBack.{Short, NumberBack, LineBack, SheetBack}
use Rattle.report.proofs.Decimal.{tenth, value_few}

-- ---- the digits of a number make that number
is_digit_lem : (d : ℕ) → d < 10 → is_digit (digit d) ≡ true
unfolding is_digit
is_digit_lem d h = rw (le-leb 48 (48 + d) (omega arith), le-leb (48 + d) 57 (omega arith))

-- one digit more
digits_more : (s : List ℕ) (d v w : ℕ) → d < 10 → digits s v ≡ Some w → digits (s ++ (digit d ∷ [])) v ≡ Some (w * 10 + d)
unfolding digits
digits_more [] d v w h e =
    let f : v ≡ w = cc e in
    let g : v * 10 + (48 + d - 48) ≡ w * 10 + d = omega arith in
    rw (is_digit_lem d h, g)
digits_more (b ∷ s) d v w h e = go (is_digit b) refl (digits_more s d (v * 10 + (b - 48)) w h)
  where
    go : (t : Bool) → is_digit b ≡ t → (digits s (v * 10 + (b - 48)) ≡ Some w → digits (s ++ (digit d ∷ [])) (v * 10 + (b - 48)) ≡ Some (w * 10 + d))
        → digits (b ∷ (s ++ (digit d ∷ []))) v ≡ Some (w * 10 + d)
    go true f r = let q = r (rw f at e) in rw (f, q)
    go false f r = let o : None ≡ Some w = rw f at e in cc o

digits_back : (d n : ℕ) → n < 10 ^ d → digits (digits_within d n) 0 ≡ Some n
unfolding digits digits_within
digits_back zero n h = ap Some (omega arith)
digits_back (suc d) n h = go (ltb n 10) refl (digits_back d (n / 10) (tenth n d h))
  where
    go : (t : Bool) → ltb n 10 ≡ t → digits (digits_within d (n / 10)) 0 ≡ Some (n / 10)
        → digits (cond t (digit n ∷ []) (digits_within d (n / 10) ++ (digit (n % 10) ∷ []))) 0 ≡ Some n
    go true e r = let g : 0 * 10 + (48 + n - 48) ≡ n = omega arith in rw (is_digit_lem n (ltb-true n 10 e), g)
    go false e r = digits_more (digits_within d (n / 10)) (n % 10) 0 (n / 10) (mod-lt n (omega arith)) r ∙ ap Some (div-add-mod' n 10)

-- ---- the first digit of a number above 0 is above '0'
first_stays : (s t : List ℕ) → 49 ≤ get_or s 0 0 → 49 ≤ get_or (s ++ t) 0 0
first_stays [] t h = absurd (omega arith)
first_stays (b ∷ s) t h = h

first_above : (d n : ℕ) → 1 ≤ n → n < 10 ^ d → 49 ≤ get_or (digits_within d n) 0 0
unfolding digits_within
first_above zero n k h = absurd (omega arith)
first_above (suc d) n k h = go (ltb n 10) refl (λ l. first_above d (n / 10) l (tenth n d h))
  where
    go : (t : Bool) → ltb n 10 ≡ t → (1 ≤ n / 10 → 49 ≤ get_or (digits_within d (n / 10)) 0 0)
        → 49 ≤ get_or (cond t (digit n ∷ []) (digits_within d (n / 10) ++ (digit (n % 10) ∷ []))) 0 0
    go true e r = omega arith
    go false e r = first_stays (digits_within d (n / 10)) (digit (n % 10) ∷ []) (r (omega (arith, ltb-false n 10 e)))

not_none : (s : List ℕ) → 49 ≤ get_or s 0 0 → 1 ≤ length s
not_none [] h = absurd (omega arith)
not_none (b ∷ s) h = omega arith

-- ---- a number
module _ (m : ℕ) (h : suc m ≤ 9999999999) where
  first : 49 ≤ get_or (natural (suc m)) 0 0
  unfolding natural
  first = first_above 20 (suc m) (omega arith) (omega arith)

  magnitude_back : magnitude (natural (suc m)) ≡ Some (suc m)
  unfolding natural
  magnitude_back =
      sym (magnitude_digits (natural (suc m)) (not_none (natural (suc m)) first) (value_few (suc m) h) (inr (λ e. omega (arith, first, e))))
      ∙ digits_back 20 (suc m) (omega arith)

positive : (s : List ℕ) (m : ℕ) → 49 ≤ get_or s 0 0 → magnitude s ≡ Some m → number s ≡ Some (pos m)
positive [] m h e = absurd (omega arith)
positive (b ∷ s) m h e = sym (number_plain refl (λ z. omega (arith, h, z)) (sym e))

nought_back : number (natural 0) ≡ Some (pos 0)
unfolding number magnitude plain digits is_digit natural digits_within
nought_back = refl

pub number_back : NumberBack
unfolding number below decimal
number_back (pos zero) h = nought_back
number_back (pos (suc m)) h =
    positive (natural (suc m)) (suc m) (first m h) (magnitude_back m h)
number_back (negsuc m) h = rw (magnitude_back m h)

-- ---- b does not stand in a list: so the first b after it is the one that was printed
abbrev Free : ℕ → List ℕ → Type 0
Free b [] = Unit
Free b (x ∷ s) = (x ≡ b → ⊥) × Free b s

parts_after : (b : ℕ) (s t : List ℕ) → Free b s → parts b (s ++ (b ∷ t)) ≡ s ∷ parts b t
unfolding parts longer
parts_after b [] t f = rw (eq-eqb b b refl)
parts_after b (x ∷ s) t f = let q = parts_after b s t f.1 in rw (ne_eqb x b f.0, q)

parts_alone : (b : ℕ) (s : List ℕ) → Free b s → parts b s ≡ s ∷ []
unfolding parts longer
parts_alone b [] f = refl
parts_alone b (x ∷ s) f = let q = parts_alone b s f.1 in rw (ne_eqb x b f.0, q)

-- ---- every byte is from '-' on and below k: digits are below ':', which is below ';', and byte 10 is below them all
abbrev Under : ℕ → List ℕ → Type 0
Under k [] = Unit
Under k (b ∷ s) = ((45 ≤ b) × (b < k)) × Under k s

under_free : (b k : ℕ) (s : List ℕ) → ((x : ℕ) → 45 ≤ x → x < k → x ≡ b → ⊥) → Under k s → Free b s
under_free b k [] h f = tt
under_free b k (x ∷ s) h f = (h x f.0.0 f.0.1, under_free b k s h f.1)

under_append : (k : ℕ) (s t : List ℕ) → Under k s → Under k t → Under k (s ++ t)
under_append k [] t f g = g
under_append k (b ∷ s) t f g = (f.0, under_append k s t f.1 g)

under_more : (k : ℕ) (s : List ℕ) → Under k s → Under (suc k) s
under_more k [] f = tt
under_more k (b ∷ s) f = ((f.0.0, omega (arith, f.0.1)), under_more k s f.1)

digits_under : (d n : ℕ) → Under 58 (digits_within d n)
unfolding digits_within
digits_under zero n = tt
digits_under (suc d) n = go (ltb n 10) refl (digits_under d (n / 10))
  where
    go : (t : Bool) → ltb n 10 ≡ t → Under 58 (digits_within d (n / 10)) → Under 58 (cond t (digit n ∷ []) (digits_within d (n / 10) ++ (digit (n % 10) ∷ [])))
    go true e r = ((omega arith, omega (arith, ltb-true n 10 e)), tt)
    go false e r = under_append 58 (digits_within d (n / 10)) (digit (n % 10) ∷ []) r ((omega arith, omega (arith, mod-lt n {m = 10} (omega arith))), tt)

decimal_under : (z : ℤ) → Under 58 (decimal z)
unfolding decimal natural
decimal_under (pos n) = digits_under 20 n
decimal_under (negsuc n) = ((omega arith, omega arith), digits_under 20 (suc n))

bound_under : (v : Interval) → Under 59 (bound v)
unfolding bound
bound_under v =
    under_append 59 (decimal v.lo) (58 ∷ decimal v.hi) (under_more 58 (decimal v.lo) (decimal_under v.lo))
    ((omega arith, omega arith), under_more 58 (decimal v.hi) (decimal_under v.hi))

further_under : (d p : ℕ) (x : List ℤ) → Under 60 (further d p x)
unfolding further
further_under zero p x = tt
further_under (suc d) p x = ((omega arith, omega arith), under_append 60 (bound (at x p)) (further d (p + 1) x) (under_more 59 (bound (at x p)) (bound_under (at x p))) (further_under d (p + 1) x))

bounds_under : (d p : ℕ) (x : List ℤ) → Under 60 (bounds d p x)
unfolding bounds further
bounds_under zero p x = tt
bounds_under (suc d) p x = (further_under (suc d) p x).1

bound_free : (v : Interval) → Free 59 (bound v)
bound_free v = under_free 59 59 (bound v) (λ x l u e. omega arith) (bound_under v)

decimal_free : (z : ℤ) → Free 58 (decimal z)
decimal_free z = under_free 58 58 (decimal z) (λ x l u e. omega arith) (decimal_under z)

-- ---- a bound
bound_back : (v : Interval) → Short v.lo → Short v.hi → value (bound v) ≡ Some (v.lo ∷ v.hi ∷ [])
unfolding value both_ends bound
bound_back v l u =
    rw (parts_after 58 (decimal v.lo) (decimal v.hi) (decimal_free v.lo), parts_alone 58 (decimal v.hi) (decimal_free v.hi), number_back v.lo l, number_back v.hi u)

-- ---- a line, from position p on
pair : (x : List ℤ) (p : ℕ) → 2 * (p + 1) ≤ length x → drop (2 * p) x ≡ (at x p).lo ∷ (at x p).hi ∷ drop (2 * (p + 1)) x
unfolding at
pair x p h =
    let e : 2 * (p + 1) ≡ suc (suc (2 * p)) = omega arith in
    drop-cons x (2 * p) (pos 0) (omega arith) ∙ rw (e, add-one, drop-cons x (suc (2 * p)) (pos 0) (omega arith))

from_back : (d p : ℕ) (x : List ℤ) → length x ≡ 2 * (p + suc d) → ((q : ℕ) → q < p + suc d → Short (at x q).lo × Short (at x q).hi)
    → values (suc d) (fields (bounds (suc d) p x)) ≡ Some (drop (2 * p) x)
unfolding values then bounds further
from_back zero p x l h =
    let f = h p (omega arith) in
    rw (append-nil, parts_alone 59 (bound (at x p)) (bound_free (at x p)), bound_back (at x p) f.0 f.1, pair x p (omega arith), drop_of_length-le x {i = 2 * (p + 1)} (omega arith))
from_back (suc d) p x l h =
    let f = h p (omega arith) in
    let r = from_back d (p + 1) x (omega arith) (λ q k. h q (omega arith)) in
    rw (parts_after 59 (bound (at x p)) (bounds (suc d) (p + 1) x) (bound_free (at x p)), bound_back (at x p) f.0 f.1, r, pair x p (omega arith))

pub line_back : LineBack
line_back zero x k l h = absurd (omega arith)
line_back (suc d) x k l h = from_back d 0 x (omega arith) (λ q m. h q (omega arith))

-- ---- a box in the range
in_range_lem : {z : ℤ} → Within z → Short z
unfolding lowest highest
in_range_lem {z} h = go z h.low.le h.high.le
  where
    go : (z : ℤ) → T (le_z (negsuc 1999999999) z) → T (le_z z (pos 2000000000)) → Short z
    go (pos n) l u = omega (arith, leb→le n 2000000000 u)
    go (negsuc n) l u = omega (arith, leb→le n 1999999999 l)

-- ---- the box reached: by an elimination that returned 0, and the sweeps after it
module _ (s : System) (X : List ℤ) (h : reached (calculation s X) ≡ true) where
  -- the elimination returned 0: had it refused, it would not have said 9
  pub reached_eliminated : (over_B s X).number ≡ 0
  unfolding calculation onward reached
  reached_eliminated = go (eqb (over_B s X).number 0) refl h
    where
      go : (b : Bool) → eqb (over_B s X).number 0 ≡ b → reached (cond b (call s (sweep_call 100) (over_B s X).left) (over_B s X)) ≡ true → (over_B s X).number ≡ 0
      go true e k = eqb-true _ 0 e
      go false e k = absurd (never_spent_B s X (eqb-true _ 9 (rw e at k)))

  pub reached_swept : calculation s X ≡ call s (sweep_call 100) (over_B s X).left
  unfolding calculation onward
  reached_swept = rw (eq-eqb (over_B s X).number 0 reached_eliminated)

reached_either : (s : System) (r : Returned (List ℤ)) → reached r ≡ true → (r.number ≡ 0) ⊎ (r.number ≡ 9)
unfolding reached
reached_either s r = go (eqb r.number 0) refl
  where
    go : (b : Bool) → eqb r.number 0 ≡ b → (b || eqb r.number 9) ≡ true → (r.number ≡ 0) ⊎ (r.number ≡ 9)
    go true e k = inl (eqb-true _ 0 e)
    go false e k = inr (eqb-true _ 9 k)

box_back : (s : System) (X : List ℤ) → reached (calculation s X) ≡ true → values s.size (fields (bounds s.size 0 (calculation s X).left)) ≡ Some (calculation s X).left
box_back s X h =
    let e = reached_swept s X h in
    let k = call_keeps s (sweep_call 100) (over_B s X).left (rw e at (reached_either s (calculation s X) h)) in
    let b = (call s (sweep_call 100) (over_B s X).left).left in
    rw e (line_back s.size b k.0 k.1.box
    (λ p q. let v = is_sound (at b p) (k.1.box_sound.each p) in (in_range_lem v.lo_in, in_range_lem v.hi_in)))

-- ---- the names are a line of the text: no byte 10 stands in them
first_free : (b : ℕ) (s : List ℕ) → Free b (part (parts b s) 0)
unfolding parts longer part
first_free b [] = tt
first_free b (x ∷ s) = go (eqb x b) refl (parts b s) (first_free b s)
  where
    go : (t : Bool) → eqb x b ≡ t → (ps : List (List ℕ)) → Free b (part ps 0) → Free b (part (cond t ([] ∷ ps) (longer x ps)) 0)
    go true e ps f = tt
    go false e [] f = (eqb-false x b e, tt)
    go false e (p ∷ ps) f = (eqb-false x b e, f)

abbrev Named : Run Cellar → Type 0
Named (refused o) = Unit
Named (done c) = Free 10 c.names

abbrev Headed : Run Head → Type 0
Headed (refused o) = Unit
Headed (done h) = Free 10 h.names

head_free : (text : List ℕ) → Headed (head text)
unfolding head first_line part
head_free text = go (leb (length text) 65536) (parts 10 text) (first_free 10 text)
  where
    line : (t : Bool) (l : List ℕ) (ls : List (List ℕ)) → Free 10 l → Headed (cond t (done (record { names = l; rest = ls })) (faulty 1))
    line true l ls f = f
    line false l ls f = tt

    go : (t : Bool) (ls : List (List ℕ)) → Free 10 (part ls 0) → Headed (cond t (first_line ls) (faulty 0))
    go true [] f = tt
    go true (l ∷ []) f = tt
    go true (l ∷ (r ∷ rs)) f = line (are_names (fields l)) l (r ∷ rs) f
    go false ls f = tt

names_free : (text : List ℕ) → Named (reading text)
unfolding reading and_then
names_free text = go (head text) (head_free text)
  where
    rest : (l : List ℕ) (n : ℕ) (r : Run (List ℤ)) → Free 10 l → Named (and_then r (λ zs. done (cellar l n zs)))
    rest l n (refused o) f = tt
    rest l n (done zs) f = f

    go : (h : Run Head) → Headed h → Named (and_then h (λ h. after_head (length (fields h.names)) h))
    go (refused o) f = tt
    go (done h) f = rest h.names (length (fields h.names)) (rows_from (length (fields h.names)) (length (fields h.names) + 1) 2 h.rest) f

-- ---- line 2 of the sheet
line_two : (names : List ℕ) (n : ℕ) (x : List ℤ) (word : List ℕ) (count : ℕ) → Free 10 names → part (parts 10 (calculated names n x word count)) 1 ≡ bounds n 0 x
unfolding calculated part
line_two names n x word count f =
    rw (parts_after 10 names (bounds n 0 x ++ (10 ∷ counted word count)) f, parts_after 10 (bounds n 0 x) (counted word count) (under_free 10 60 (bounds n 0 x) (λ b l u e. omega arith) (bounds_under n 0 x)))

sheet_two : (names : List ℕ) (n : ℕ) (r : Returned (List ℤ)) → Free 10 names → reached r ≡ true → part (parts 10 (sheet_or_refusal names n r)) 1 ≡ bounds n 0 r.left
unfolding sheet_or_refusal sheet
sheet_two names n r f h = rw h (line_two names n r.left _ r.count f)

pub sheet_back : SheetBack
unfolding printed solved
sheet_back text c e h =
    let s = c.balance in
    let f : Free 10 c.names = subst Named e (names_free text) in
    ap (λ l. values s.size (fields l)) (ap (λ q. part (parts 10 (printed_for q)) 1) e ∙ sheet_two c.names s.size (solved s) f h)
    ∙ box_back s (replicate (2 * s.size) (pos 0)) h
