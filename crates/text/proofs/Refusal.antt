-- A text is refused with 8, and with no other number.
use mathlib.Core.Path.{◌≡◌, subst}
use mathlib.Core.List.{List, [], ◌∷◌}
use Prim.Native.Nat.{ℕ, zero, suc}
use lib.IntN.{ℤ}
use Rattle.outcome.specs.declared.Refusal.{Refusal}
use Rattle.std.specs.Prelude.{Option, Some, None, Err}
use Rattle.outcome.specs.Table.{number_and_place}
use Rattle.outcome.specs.Run.{refused}
use Rattle.outcome.proofs.Run.{Refuses, refuses_done, refuses_with, refuses_cond, refuses_then}
use Rattle.text.specs.Text.{first_line, head, on_line, before, at_end, rows_from, reading}

abbrev Eight : Refusal → Type 0
Eight o = (number_and_place (Err o)).number ≡ 8

ruleset parts = (refuses_done, refuses_with, refuses_cond, refuses_then)

on_first : (ls : List (List ℕ)) → Refuses Eight (first_line ls)
unfolding first_line
on_first [] = search parts
on_first (l ∷ []) = search parts
on_first (l ∷ (r ∷ rs)) = search parts

on_head : (text : List ℕ) → Refuses Eight (head text)
unfolding head
on_head text = search (parts, on_first)

on_line_lem : (k : ℕ) (o : Option (List ℤ)) → Refuses Eight (on_line k o)
unfolding on_line
on_line_lem k None = search parts
on_line_lem k (Some xs) = search parts

on_end : (k : ℕ) (ls : List (List ℕ)) → Refuses Eight (at_end k ls)
unfolding at_end
on_end k [] = search parts
on_end k ([] ∷ []) = search parts
on_end k ([] ∷ (l ∷ ls)) = search parts
on_end k ((b ∷ l) ∷ ls) = search parts

on_rows : (n d k : ℕ) (ls : List (List ℕ)) → Refuses Eight (rows_from n d k ls)
unfolding rows_from before
on_rows n zero k ls = on_end k ls
on_rows n (suc d) k [] = search parts
on_rows n (suc d) k (l ∷ []) = search parts
on_rows n (suc d) k (l ∷ (r ∷ rs)) = search (parts, on_line_lem, on_rows n d)

pub refused_eight : (text : List ℕ) {o : Refusal} → reading text ≡ refused o → (number_and_place (Err o)).number ≡ 8
unfolding reading
refused_eight text {o} e =
    let h : Refuses Eight (reading text) = search (parts, on_head, on_rows) in
    (subst (λ r. Refuses Eight r) e h).where_refused
