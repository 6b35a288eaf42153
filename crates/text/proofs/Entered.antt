-- The names of a line, as far as they are read and entered.
use mathlib.Core.Path.{◌≡◌, refl, sym, ap, ◌∙◌}
use mathlib.Core.Bool.{Bool, true, false, not, ◌&&◌}
use mathlib.Core.List.{List, [], ◌∷◌, ◌++◌, map, append_assoc}
use Prim.Native.Nat.{ℕ, ◌+◌, ◌-◌, ◌≤◌, ◌<◌}
use native.Mathlib.Omega.{arith}
use borrow.Author.Tests.{le-leb, lt-leb, not-true}
use lib.ListN.{length, take, drop, length-append, length-drop}
use lib.Seq.{length-take-le}
use Rattle.std.proofs.lemmas.List.{map-append}
use Rattle.interval.proofs.Range.{and_both}
use Rattle.std.specs.Prelude.{Some, None, eqb}
use Rattle.std.specs.List.{list_any}
use Rattle.search.specs.Word.{packed}
use Rattle.text.specs.Parts.{fields}
use Rattle.text.specs.Names.{is_name, among, each_name, are_names}
use Rattle.text.specs.Code.{is_new, names_of}
use Rattle.text.proofs.Names.{name_bytes, each_new, each_old}
use Rattle.text.proofs.Packed.{entered_among}
use Rattle.text.proofs.Parts.{parts_some}
use Rattle.std.proofs.Math.Bool.{and-false}

-- ---- one name, after those that are the numbers cs
module _ (cs p : List ℕ) where
  pub no_name : is_name p ≡ false → false ≡ is_new cs p
  unfolding is_new
  no_name e = rw e

  pub new_by : {t : Bool} {k : ℕ} → is_name p ≡ true → k ≡ packed p → t ≡ list_any (λ c. eqb c k) cs → not t ≡ is_new cs p
  unfolding is_new
  new_by e f g = rw (e, g, f)

-- a name ends before e, or with the line
module _ (cs line : List ℕ) (at : ℕ) where
  new_short : (p : List ℕ) → is_new cs p ≡ true → length p ≤ 16
  unfolding is_new
  new_short p h = (name_bytes p (and_both (is_name p) (not (list_any (λ c. eqb c (packed p)) cs)) h).0).0

  pub short_to : (e : ℕ) → e < length line → is_new cs (take (e - at) (drop at line)) ≡ true → e ≤ at + 16
  short_to e h k =
      let d : length (take (e - at) (drop at line)) ≡ e - at = length-take-le (e - at) (drop at line) (rw length-drop (omega arith)) in
      omega (arith, new_short _ k)

  pub short_last : is_new cs (drop at line) ≡ true → length line ≤ at + 16
  short_last k = omega (arith, new_short _ k, length-drop at line)

-- ---- the names of a line
-- before the place `at` of a line stand n names, all different, and cs begins with their numbers
pub record Entered (line : List ℕ) (at n : ℕ) (cs : List ℕ) : Type 0 where
  pub before : List (List ℕ)
  pub count : length before ≡ n
  pub parts : fields line ≡ before ++ fields (drop at line)
  pub names : each_name before ≡ true
  pub codes : cs ≡ map packed before

pub none_entered : (line : List ℕ) → Entered line 0 0 []
unfolding each_name
none_entered line = record { before = []; count = refl; parts = refl; names = refl; codes = refl }

module _ {line : List ℕ} {at n : ℕ} {cs : List ℕ} (r : Entered line at n cs) where
  counted : length (fields line) ≡ n + length (fields (drop at line))
  counted = ap length r.parts ∙ rw (length-append, r.count)

  -- by the names themselves
  new_is : (p : List ℕ) → is_new cs p ≡ (is_name p && not (among p r.before))
  unfolding is_new
  new_is p = rw r.codes (go (is_name p) refl)
    where
      go : (t : Bool) → is_name p ≡ t → (is_name p && not (list_any (λ c. eqb c (packed p)) (map packed r.before))) ≡ (is_name p && not (among p r.before))
      go true e = rw (entered_among p r.before e r.names)
      go false e = rw e

  pub too_many : 32 ≤ n → names_of line ≡ None
  unfolding names_of are_names
  too_many h = rw (counted, lt-leb (n + length (fields (drop at line))) 32 (omega (arith, parts_some 59 (drop at line))))

  -- the part that comes next is no new name
  pub refused : {p : List ℕ} {ps : List (List ℕ)} → fields (drop at line) ≡ p ∷ ps → is_new cs p ≡ false → names_of line ≡ None
  unfolding names_of are_names
  refused {p} {ps} e h = rw (r.parts, e, each_old p r.before ps (sym (new_is p) ∙ h), and-false)

  -- it is one
  module _ (p : List ℕ) (h : is_new cs p ≡ true) where
    more : each_name (r.before ++ p ∷ []) ≡ true
    more =
        let f = and_both (is_name p) (not (among p r.before)) (sym (new_is p) ∙ h) in
        each_new p r.before r.names f.0 (not-true _ f.1)

    pub last_entered : fields (drop at line) ≡ p ∷ [] → n < 32 → names_of line ≡ Some (n + 1)
    unfolding names_of are_names
    last_entered e k =
        let c : length (fields line) ≡ n + 1 = counted ∙ rw e in
        rw (c, le-leb (n + 1) 32 (omega arith), r.parts, e, more)

    pub next_entered : {to : ℕ} {ds : List ℕ} → fields (drop at line) ≡ p ∷ fields (drop to line) → ds ≡ cs ++ packed p ∷ [] → Entered line to (n + 1) ds
    next_entered {to} {ds} e k = record {
      before = r.before ++ p ∷ [];
      count = rw (length-append, r.count);
      parts = r.parts ∙ rw (e, append_assoc);
      names = more;
      codes = k ∙ rw (r.codes, map-append);
    }
