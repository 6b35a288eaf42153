-- Names as numbers, and why two names that have the same number are the same.
use mathlib.Core.Path.{◌≡◌, refl, ap, ◌∙◌}
use mathlib.Core.Bool.{true, not, ◌&&◌}
use mathlib.Core.List.{List, [], ◌∷◌, ◌++◌, map}
use Prim.Native.Nat.{ℕ, zero, suc, ◌-◌, ◌≤◌}
use native.Mathlib.Omega.{arith}
use borrow.Author.Tests.{eq-eqb, eqb-true}
use lib.Dec.{eqb}
use lib.ListN.{length, drop, replicate, length-append, length-replicate}
use lib.Seq.{take_all}
use Rattle.std.proofs.lemmas.List.{drop-replicate}
use Rattle.std.specs.Int.{from_le_bytes, w128}
use Rattle.std.specs.List.{list_any}
use Rattle.interval.proofs.Range.{and_both}
use Rattle.search.specs.Word.{packed, word_at}
use Rattle.search.proofs.Words.{word_none, word_more}
use Rattle.text.specs.Names.{name_byte, all_bytes, is_name, same, among, each_name}
use Rattle.text.proofs.Names.{byte_within, name_bytes, same_is}

-- ---- the numbers of names
-- no byte is 0, so the number also tells how many there are
packed_same : (s t : List ℕ) → all_bytes s ≡ true → all_bytes t ≡ true → packed s ≡ packed t → s ≡ t
unfolding packed all_bytes
packed_same [] [] h k e = refl
packed_same [] (b ∷ t) h k e = absurd (omega (arith, byte_within b (and_both (name_byte b) (all_bytes t) k).0))
packed_same (a ∷ s) [] h k e = absurd (omega (arith, byte_within a (and_both (name_byte a) (all_bytes s) h).0))
packed_same (a ∷ s) (b ∷ t) h k e =
    let f = and_both (name_byte a) (all_bytes s) h in
    let g = and_both (name_byte b) (all_bytes t) k in
    let p : a ≡ b = omega (arith, byte_within a f.0, byte_within b g.0) in
    let q : s ≡ t = packed_same s t f.1 g.1 (omega arith) in
    cc

-- two names have the same number exactly if they are the same
same_number : (p q : List ℕ) → is_name p ≡ true → is_name q ≡ true → eqb (packed p) (packed q) ≡ same p q
same_number p q h k =
    same_is (eqb (packed p) (packed q)) p q (λ e. packed_same p q (name_bytes p h).1 (name_bytes q k).1 (eqb-true _ _ e), λ e. rw (e, eq-eqb (packed q) (packed q) refl))

pub entered_among : (p : List ℕ) (ps : List (List ℕ)) → is_name p ≡ true → each_name ps ≡ true → list_any (λ c. eqb c (packed p)) (map packed ps) ≡ among p ps
unfolding among each_name
entered_among p [] h k = refl
entered_among p (q ∷ ps) h k =
    let e = and_both (is_name q) (not (among q ps) && each_name ps) k in
    let f = and_both (not (among q ps)) (each_name ps) e.1 in
    rw (same_number q p e.0 h, entered_among p ps h f.1)

-- ---- sixteen bytes at most, followed by bytes 0
zeros : (k : ℕ) → packed (replicate k 0) ≡ 0
unfolding packed
zeros zero = refl
zeros (suc k) = rw (zeros k)

padded : (s : List ℕ) (k : ℕ) → packed (s ++ replicate k 0) ≡ packed s
unfolding packed
padded [] k = zeros k
padded (b ∷ s) k = rw (padded s k)

sixteen_bytes : (t : List ℕ) → length t ≤ 16 → from_le_bytes w128 t ≡ packed t
unfolding word_at
sixteen_bytes t h =
    let e : word_at t 0 16 ≡ packed t = ap packed (take_all 16 t h) in
    omega (arith, e, word_more t 0 15, word_more t 1 14, word_more t 2 13, word_more t 3 12, word_more t 4 11, word_more t 5 10, word_more t 6 9, word_more t 7 8, word_more t 8 7, word_more t 9 6, word_more t 10 5, word_more t 11 4, word_more t 12 3, word_more t 13 2, word_more t 14 1, word_more t 15 0, word_none t 16)

-- with a 0 for each byte that is missing
pub packed_in : (s : List ℕ) → length s ≤ 16 → from_le_bytes w128 (s ++ drop (length s) (replicate 16 0)) ≡ packed s
packed_in s h =
    let t = s ++ replicate (16 - length s) 0 in
    let l : length t ≤ 16 = simp (length-append, length-replicate) (omega arith) in
    rw drop-replicate (sixteen_bytes t l ∙ padded s (16 - length s))
