use mathlib.Core.Path.{◌≡◌, sym, ap, ◌∙◌}
use mathlib.Core.List.{◌∷◌, ◌++◌, append-nil, append_assoc}
use Prim.Native.Nat.{◌+◌, ◌-◌}
use native.Mathlib.Omega.{arith}
use Rattle.inputs.specs.Place.{at}
use Rattle.report.specs.Sheet.{bound, further}
use Rattle.report.proofs.Sheet.{bounds_first, further_more, further_end}
use Rattle.report.proofs.internal.sheet.put_bounds.Goals as goal

pub loop-p-init : goal.loop-p-init
loop-p-init c =
    let x = c.args.x.now in
    (omega (arith, c.put_bound.ensures.short), rw (c.put_bound.ensures.text, c.read.ensures, bounds_first c.args.n x c.requires.0) (simp append_assoc))

pub loop-p-preserved : goal.loop-p-preserved
loop-p-preserved c =
    let x = c.args.x.now in
    let p = c.loop-p.p in
    let s = c.loop-p.sheet.items in
    let m : c.put_bound-in-loop-p.new.sheet.items ++ further (c.args.n - (p + 1)) (p + 1) x ≡ s ++ (59 ∷ (bound (at x p) ++ further (c.args.n - (p + 1)) (p + 1) x)) =
    rw (c.put_bound-in-loop-p.ensures.text, c.read-in-loop-p.ensures, c.push.ensures.items) (simp append_assoc) in
    (omega (arith, c.put_bound-in-loop-p.ensures.short, c.push.ensures.len), m ∙ ap (λ t. s ++ t) (sym (further_more c.args.n p x c.loop-p-test.true)) ∙ c.loop-p.invariant.1)

pub returns-clause-text : goal.returns-clause-text
returns-clause-text c =
    let l = c.loop-p in
    sym (append-nil l.sheet.items) ∙ ap (λ t. l.sheet.items ++ t) (sym (further_end c.args.n l.p c.args.x.now c.loop-p-test.false)) ∙ l.invariant.1
