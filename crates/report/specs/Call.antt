-- Document 01, The cellar text: 'The program 'balance' reads standard input, eliminates from B and b, sweeps with 100 allowed, and prints'.
use Rattle.std.specs.Prelude.{◌≡◌, Bool, cond, ◌||◌, List, [], ◌∷◌, ℕ, ◌*◌, ◌≤◌, eqb, ℤ, pos, length, take, replicate, Result, Ok, Err}
use Rattle.outcome.specs.declared.Ending.TheVariants.{Done}
use Rattle.outcome.specs.declared.Refusal.{Refusal}
use Rattle.outcome.specs.Table.{number_and_place}
use Rattle.outcome.specs.Run.{Run, refused, done, and_then, Returned, returned, ended}
use Rattle.inputs.specs.Tests.{Test, slice, lengths, tested}
use Rattle.inputs.specs.System.{System}
use Rattle.elimination.specs.Call.{over_B}
use Rattle.sweep.specs.Calls.{sweep_call, call}
use Rattle.text.specs.Text.{Cellar, reading}
use Rattle.text.specs.Call.{over}
use Rattle.report.specs.declared.Written.{Written}
use Rattle.report.specs.Sheet.{settled, spent, calculated, refusal}

-- ---- the calculation, from numbers to number, place, count and box
-- from what the elimination returned: 'sweeps with 100 allowed', or its refusal
unfoldable pub onward : System → Returned (List ℤ) → Returned (List ℤ)
onward s e = cond (eqb e.number 0) (call s (sweep_call 100) e.left) e

-- 'eliminates from B and b', to a lent box
unfoldable pub calculation : System → (box : List ℤ) → Returned (List ℤ)
calculation s X = onward s (over_B s X)

-- the box that is lent holds noughts; the elimination does not read them
unfoldable pub solved : System → Returned (List ℤ)
solved s = calculation s (replicate (2 * s.size) (pos 0))

-- 0 settled, 9 spent: it reached bounds
unfoldable pub reached : Returned (List ℤ) → Bool
reached r = eqb r.number 0 || eqb r.number 9

-- ---- what is printed
unfoldable pub sheet : (names : List ℕ) → (n : ℕ) → Returned (List ℤ) → List ℕ
sheet names n r = calculated names n r.left (cond (eqb r.number 0) settled spent) r.count

unfoldable pub sheet_or_refusal : (names : List ℕ) → (n : ℕ) → Returned (List ℤ) → List ℕ
sheet_or_refusal names n r = cond (reached r) (sheet names n r) (refusal r.number r.place)

abbrev pub printed_for : Run Cellar → List ℕ
printed_for (refused o) = refusal (number_and_place (Err o)).number (number_and_place (Err o)).place
printed_for (done c) = sheet_or_refusal c.names c.balance.size (solved c.balance)

-- every byte that 'balance' prints for a text
unfoldable pub printed : List ℕ → List ℕ
printed text = printed_for (reading text)

-- ---- the calls: out has exactly 2,048 bytes, and stands at place 3
abbrev pub room : (out : List ℕ) → Test
room out = lengths (slice 3 (length out) 2_048 ∷ [])

-- `report`: the sheet at the beginning of out and the number of its bytes, or the refusal
unfoldable pub reported : (names : List ℕ) → (n : ℕ) → (out : List ℕ) → Returned (List ℤ) → Returned (List ℕ)
reported names n out r =
    record {
      number = r.number;
      place = r.place;
      count = cond (reached r) (length (sheet names n r)) 0;
      left = cond (reached r) (over (sheet names n r) out) out;
    }

-- the same from the code's answer
abbrev pub answer_of : {A : Type 0} → Result Written Refusal → A → Returned A
answer_of (Ok w) a = returned (Ok w.ending) w.count a
answer_of (Err o) a = returned (Err o) 0 a

-- 8, then 2, then what the calculation returns
unfoldable pub report : (text out : List ℕ) → Returned (List ℕ)
report text out =
    ended (λ c. reported c.names c.balance.size out (solved c.balance)) out
    (and_then (reading text) (λ c. tested (room out) (done c)))

-- `print`: all that is printed at the beginning of out, refusals too, and the number of its bytes
unfoldable pub print : (text out : List ℕ) → Returned (List ℕ)
print text out = ended (λ s. returned (Ok Done) (length s) (over s out)) out (tested (room out) (done (printed text)))

-- the first n bytes of xs can be taken, and are n bytes
abbrev pub IsPrefixLen : ℕ → List ℕ → Type 0
IsPrefixLen n xs = (n ≤ length xs) × (n ≡ length (take n xs))
