use mathlib.Core.Path.{◌≡◌, sym, subst, ◌∙◌}
use Prim.Native.Nat.{◌+◌, ◌≤◌, ◌<◌}
use native.Mathlib.Omega.{arith}
use lib.ListN.{length}
use Rattle.std.specs.Prelude.{Some}
use Rattle.search.specs.First.{first_from, within}
use Rattle.search.proofs.Turn.{past}
use Rattle.search.proofs.Claim.{first_within}
use Rattle.search.proofs.Marked.{before, unmarked, marked}
use Rattle.search.proofs.first.Goals as goal

-- a mark in the word
hit : (c : goal.Then-m-ne0) → let l = c.before.before.before in let a = l.args in
    (first_from a.s.now l.loop-i.i a.b ≡ Some (l.loop-i.i + before 8 c.marks-m.result)) × (before 8 c.marks-m.result < 8)
hit c =
    let l = c in
    let a = l.args in
    rw c.marks-m.ensures (marked a.s.now a.b 8 l.loop-i.i (omega (arith, c.loop-i-test.true, l.loop-i.invariant.1)) (λ z. c.if-m-ne0.true (c.marks-m.ensures ∙ z)))

none : (c : goal.Else-m-ne0) → c.marks-m.result ≡ 0
none c = c.if-m-ne0.false

pub returns-then-s-from : goal.returns-then-s-from
returns-then-s-from c = let s = c.args in record { value = sym (past s.s.now s.b s.from (omega (arith, c.if-s-from.true))); within = tt }

pub returns-then-m-ne0 : goal.returns-then-m-ne0
returns-then-m-ne0 c =
    let l = c in
    let a = l.args in
    record { value = sym (hit c).0 ∙ l.loop-i.invariant.2; within = (omega (arith, l.loop-i.invariant.0), omega (arith, (hit c).1, l.loop-i.invariant.1, c.loop-i-test.true)) }

pub loop-i-preserved : goal.loop-i-preserved
loop-i-preserved c =
    let l = c in
    let a = l.args in
    let t : l.loop-i.i + 8 ≤ length a.s.now = omega (arith, c.loop-i-test.true, l.loop-i.invariant.1) in
    (omega (arith, l.loop-i.invariant.0), omega (arith, t), sym (unmarked a.s.now a.b 8 l.loop-i.i _ (omega arith) t (sym c.marks-m.ensures ∙ none c)) ∙ l.loop-i.invariant.2)

pub returns : goal.returns
returns c =
    let l = c in
    let a = l.args in
    let e : c.first_by_bytes.result ≡ first_from a.s.now a.from a.b = cc (c.first_by_bytes.ensures, l.loop-i.invariant.2) in
    record { value = e; within = subst (within a.s.now a.from) (sym e) (first_within a.s.now a.b a.from) }
