-- Document 01, Samples: the starred lines, in its sequence, as one small table of what the definitions give and what the paper lists.
use Rattle.std.specs.Prelude.{◌≡◌, List, [], ◌∷◌, ℕ, ◌*◌, ℤ, pos, neg_ℤ, replicate}
use Rattle.outcome.specs.Run.{done, and_then, Returned, ended, written}
use Rattle.interval.specs.declared.Interval.{Interval}
use Rattle.interval.specs.Interval.{ends, point, zero}
use Rattle.interval.specs.Answer.{Answer, sum_answer, product_answer, quotient_answer}
use Rattle.inputs.specs.System.{System}
use Rattle.inputs.specs.Place.{at, cell}
use Rattle.forward.specs.Pivot.{lowest_row, in_place}
use Rattle.forward.specs.Forward.{forward}
use Rattle.forward.specs.Forward.{table as start}
use Rattle.elimination.specs.Call.{copied, none_taken, ended_A, over_A, over_B}
use Rattle.rows.specs.Sum.{once}
use Rattle.sweep.specs.Calls.{sweep_call, call}

-- the numbers of a list of intervals
abbrev numbers : List Interval → List ℤ
numbers [] = []
numbers (v ∷ vs) = v.lo ∷ v.hi ∷ numbers vs

-- what a call returns and leaves: number, place, count and a box, or the two ends of a step
abbrev Result : Type 0
Result = Returned (List ℤ)

abbrev result : (number place count : ℕ) → List ℤ → Result
result n p c x = record { number = n; place = p; count = c; left = x }

pub record Line : Type 0 where
  pub calculated : Result
  pub listed : Result

abbrev line : Result → Result → Line
line c l = record { calculated = c; listed = l }

-- ---- a step that gives an interval, and one that is refused
abbrev step : Answer → Result
step a = result a.number a.place 0 (numbers (a.left ∷ []))

abbrev gives : Answer → Interval → Line
gives a v = line (step a) (result 0 0 0 (numbers (v ∷ [])))

abbrev refuses : Answer → ℕ → Line
refuses a number = line (step a) (result number 0 0 (numbers (zero ∷ [])))

-- ---- an elimination, lent a box of n sevens, that gives a box, and one that is refused
abbrev lent : ℕ → List ℤ
lent n = replicate (2 * n) (pos 7)

abbrev solves : (List ℤ → Result) → (n : ℕ) → List Interval → Line
solves over n x = line (over (lent n)) (result 0 0 0 (numbers x))

abbrev stops : (List ℤ → Result) → (n number place : ℕ) → Line
stops over n number place = line (over (lent n)) (result number place 0 (lent n))

-- the third pivot of a system of three, after the forward part
abbrev third_pivot : System → List ℤ → Result
third_pivot s X =
    ended written X (and_then (forward lowest_row 3 (start (copied s) none_taken)) (λ t. done (numbers (at t.numbers (cell 3 2 2) ∷ []))))

-- ---- a sweep call
abbrev sweeps : System → (allowed : ℕ) → List ℤ → Result → Line
sweeps s k x r = line (call s (sweep_call k) x) r

-- ---- some systems and boxes
abbrev system : ℕ → List Interval → List Interval → System
system n m r = record { size = n; matrix = numbers m; right = numbers r }

abbrev whole : ℕ → Interval
whole k = point (pos (k * 1_000_000))

abbrev half : Interval
half = point (pos 500_000)

-- document 000, example 4.1, with f = 0: as it stands there, and with rows and columns 2 and 3 exchanged
abbrev arrow : System
arrow =
    system 3
    (ends (pos 1_000_000) (pos 2_000_000) ∷ whole 0 ∷ whole 2
    ∷ whole 0 ∷ whole 2 ∷ whole 3
    ∷ ends (pos 0) (pos 1_000_000) ∷ whole 1 ∷ ends (neg_ℤ (pos 4_000_000)) (pos 1_000_000) ∷ [])
    (whole 0 ∷ whole 0 ∷ whole 0 ∷ [])

abbrev tridiagonal : System
tridiagonal =
    system 3
    (ends (pos 1_000_000) (pos 2_000_000) ∷ whole 2 ∷ whole 0
    ∷ ends (pos 0) (pos 1_000_000) ∷ ends (neg_ℤ (pos 4_000_000)) (pos 1_000_000) ∷ whole 1
    ∷ whole 0 ∷ whole 3 ∷ whole 2 ∷ [])
    (whole 0 ∷ whole 0 ∷ whole 0 ∷ [])

-- B and b of the program's input
abbrev input : System
input = system 2 (whole 0 ∷ ends (pos 0) (pos 500_000) ∷ half ∷ whole 0 ∷ []) (whole 3 ∷ whole 0 ∷ [])

abbrev starts_wide : List ℤ
starts_wide = numbers (ends (pos 0) (pos 10_000_000) ∷ ends (pos 0) (pos 10_000_000) ∷ [])

abbrev starts_apart : List ℤ
starts_apart = numbers (ends (pos 5_000_000) (pos 6_000_000) ∷ ends (pos 0) (pos 1_000_000) ∷ [])

abbrev pub table : List Line
table =
    -- 0.000001 · 0.5 = [0, 0.000001]; −0.000001 · 0.5 = [−0.000001, 0]
    gives (product_answer (point (pos 1)) (point (pos 500_000))) (ends (pos 0) (pos 1))
    ∷ gives (product_answer (point (neg_ℤ (pos 1))) (point (pos 500_000))) (ends (neg_ℤ (pos 1)) (pos 0))
    -- 1/3 = [0.333333, 0.333334]; 1/(−3) = [−0.333334, −0.333333]
    ∷ gives (quotient_answer (point (pos 1_000_000)) (point (pos 3_000_000))) (ends (pos 333_333) (pos 333_334))
    ∷ gives (quotient_answer (point (pos 1_000_000)) (point (neg_ℤ (pos 3_000_000)))) (ends (neg_ℤ (pos 333_334)) (neg_ℤ (pos 333_333)))
    -- 2000 + 0 is accepted; 2000 + 0.000001 gives 6
    ∷ gives (sum_answer (point (pos 2_000_000_000)) (point (pos 0))) (ends (pos 2_000_000_000) (pos 2_000_000_000))
    ∷ refuses (sum_answer (point (pos 2_000_000_000)) (point (pos 1))) 6
    -- 0.002 / [0.000001, 1] = [0.002, 2000]; dividend 0.002001 gives 6; divisor [0, 1] gives 5
    ∷ gives (quotient_answer (point (pos 2000)) (ends (pos 1) (pos 1_000_000))) (ends (pos 2000) (pos 2_000_000_000))
    ∷ refuses (quotient_answer (point (pos 2001)) (ends (pos 1) (pos 1_000_000))) 6
    ∷ refuses (quotient_answer (point (pos 2000)) (ends (pos 0) (pos 1_000_000))) 5
    -- A = [1, 1.6], f = [1, 2]: [0.625, 2]
    ∷ solves (over_A (system 1 (ends (pos 1_000_000) (pos 1_600_000) ∷ []) (ends (pos 1_000_000) (pos 2_000_000) ∷ []))) 1
    (ends (pos 625_000) (pos 2_000_000) ∷ [])
    -- One vat, B = [0.1, 0.2], b = 9: [10, 11.25]
    ∷ solves (over_B (system 1 (ends (pos 100_000) (pos 200_000) ∷ []) (whole 9 ∷ []))) 1 (ends (pos 10_000_000) (pos 11_250_000) ∷ [])
    -- B(1,2) = B(2,1) = 0.5, other shares 0, b = (3, 0): 4 and 2
    ∷ solves (over_B (system 2 (whole 0 ∷ half ∷ half ∷ whole 0 ∷ []) (whole 3 ∷ whole 0 ∷ []))) 2 (whole 4 ∷ whole 2 ∷ [])
    -- Document 000, example 4.1: third pivot [−7.5, −0.5]. With rows and columns 2 and 3 exchanged: 5, place 2, before document 02's A1.
    -- The exchanged sample 'is now accepted there, with third pivot [0.333332, 5]'
    ∷ solves (third_pivot arrow) 1 (ends (neg_ℤ (pos 7_500_000)) (neg_ℤ (pos 500_000)) ∷ [])
    ∷ stops (ended_A in_place once tridiagonal) 3 5 2
    ∷ solves (third_pivot tridiagonal) 1 (ends (pos 333_332) (pos 5_000_000) ∷ [])
    ∷ solves (over_A tridiagonal) 3 (whole 0 ∷ whole 0 ∷ whole 0 ∷ [])
    -- B, b of the program's input, start [0, 10] twice, 3 allowed: [3, 4.25], [1.5, 2.125], 9, count 3
    ∷ sweeps input 3 starts_wide
    (result 9 0 3 (numbers (ends (pos 3_000_000) (pos 4_250_000) ∷ ends (pos 1_500_000) (pos 2_125_000) ∷ [])))
    -- The same, start [5, 6], [0, 1]: 7, place 1, count 0
    ∷ sweeps input 3 starts_apart (result 7 1 0 starts_apart)
    ∷ []

-- in each line the calculation gives what the paper lists
abbrev EachAgrees : List Line → Type 0
EachAgrees [] = Unit {0}
EachAgrees (l ∷ ls) = (l.calculated ≡ l.listed) × EachAgrees ls

-- the one claim, about the whole table
abbrev pub Agrees : Type 0
Agrees = EachAgrees table
