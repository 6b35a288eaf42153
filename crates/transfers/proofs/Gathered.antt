-- Records and the numbers that they stand as.
use mathlib.Core.Path.{◌≡◌, refl, sym, ap, ◌∙◌}
use mathlib.Core.List.{List, [], ◌∷◌, ◌++◌}
use Prim.Native.Nat.{ℕ, suc, ◌+◌, ◌<◌}
use native.Mathlib.Omega.{arith}
use native.Mathlib.Numerals.{add-one}
use lib.IntN.{ℤ, pos}
use lib.ListN.{length, get_or, set, take, drop}
use lib.Seq.{take-suc, drop-cons, append_snoc, set_at, length-take-le, take_at}
use Rattle.transfers.specs.declared.Transfer.{Transfer}
use Rattle.transfers.specs.Listing.{nth, transfer_of, transfers_of, numbers_of}
use Rattle.transfers.specs.Code.{records_of}

-- what `nth` finds past the end
abbrev pub none : Transfer
none = record { receiver = pos 0; giver = pos 0; lo = pos 0; hi = pos 0 }

pub length_records : (ts : List Transfer) → length (records_of ts) ≡ length ts
unfolding records_of
length_records [] = refl
length_records (t ∷ ts) = ap suc (length_records ts)

records_append : (xs ys : List Transfer) → records_of (xs ++ ys) ≡ records_of xs ++ records_of ys
unfolding records_of
records_append [] ys = refl
records_append (x ∷ xs) ys = ap (λ l. numbers_of x ∷ l) (records_append xs ys)

records_more : (ys : List Transfer) (k : ℕ) → k < length ys → records_of (take (suc k) ys) ≡ records_of (take k ys) ++ (numbers_of (nth ys k) ∷ [])
unfolding records_of
records_more ys k h = ap records_of (take-suc ys k none h) ∙ records_append (take k ys) (nth ys k ∷ [])

-- the first k records stand at the beginning, and the next is put
pub put_more : (ys : List Transfer) (zs l : List (List ℤ)) (k : ℕ) → k < length ys → k < length zs → l ≡ records_of (take k ys) ++ drop k zs
    → set l k (numbers_of (nth ys k)) ≡ records_of (take (k + 1) ys) ++ drop (k + 1) zs
put_more ys zs l k h g e =
    let front = records_of (take k ys) in
    let r = numbers_of (nth ys k) in
    let f : length front ≡ k = length_records (take k ys) ∙ length-take-le k ys (omega arith) in
    let s : l ≡ front ++ get_or zs k [] ∷ drop (suc k) zs = e ∙ ap (λ m. front ++ m) (drop-cons zs k [] g) in
    let p : set l k r ≡ front ++ r ∷ drop (suc k) zs = ap (λ m. set m k r) s ∙ set_at front (get_or zs k []) (drop (suc k) zs) r k f in
    rw (add-one k) (p ∙ sym (append_snoc front r (drop (suc k) zs)) ∙ ap (λ m. m ++ drop (suc k) zs) (sym (records_more ys k h)))

-- ---- the list again, from what was gathered
transfers_records : (ts : List Transfer) → transfers_of (records_of ts) ≡ ts
unfolding transfers_of transfer_of records_of
transfers_records [] = refl
transfers_records (t ∷ ts) = ap (λ l. t ∷ l) (transfers_records ts)

-- the numbers of a list, at the beginning of others
pub list_again : (ts : List Transfer) (rest values : List (List ℤ)) → values ≡ records_of ts ++ rest → transfers_of (take (length ts) values) ≡ ts
list_again ts rest values e =
    ap (λ l. transfers_of (take (length ts) l)) e ∙ ap transfers_of (take_at (records_of ts) rest (length ts) (length_records ts)) ∙ transfers_records ts
