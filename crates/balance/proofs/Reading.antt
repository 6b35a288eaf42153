-- One read after the others.
use mathlib.Core.Path.{◌≡◌, sym, ap, ◌∙◌}
use mathlib.Core.List.{List, ◌++◌, append_assoc}
use Prim.Native.Nat.{ℕ, ◌+◌, ◌≤◌}
use lib.ListN.{length, take}
use lib.Seq.{length-take-le, take-append-add}
use Rattle.std.proofs.lemmas.List.{take-append-le}
use Rattle.std.specs.Prelude.{Option, Some, None}
use Rattle.std.specs.Io.KnownBytes.{Consumes}

-- the bytes that are read follow those read before
pub more_taken : (done m : ℕ) (buf r rest : List ℕ) → done ≤ length buf → m ≤ length r → take (done + m) (take done buf ++ (r ++ rest)) ≡ take done buf ++ take m r
more_taken done m buf r rest h k =
    ap (λ n. take (n + m) (take done buf ++ (r ++ rest))) (sym (length-take-le done buf h)) ∙ take-append-add (take done buf) (r ++ rest) m ∙ ap (λ t. take done buf ++ t) (take-append-le m r rest k)

pub more_consumed : (a b c : Option (List ℕ)) (xs ys : List ℕ) → Consumes a b xs → Consumes b c ys → Consumes a c (xs ++ ys)
more_consumed None b c xs ys h k = tt
more_consumed (Some s) None c xs ys h k = absurd h
more_consumed (Some s) (Some t) None xs ys h k = absurd k
more_consumed (Some s) (Some t) (Some u) xs ys h k = h ∙ ap (λ l. xs ++ l) k ∙ sym (append_assoc xs ys u)
