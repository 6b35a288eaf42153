use mathlib.Core.Path.{◌≡◌, ap, ◌∙◌}
use mathlib.Core.List.{◌++◌, append_assoc}
use Rattle.text.specs.Bytes.{bytes}
use Rattle.report.specs.Decimal.{natural}
use Rattle.report.specs.Sheet.{refusal}
use Rattle.report.proofs.Decimal.{spelled}
use Rattle.report.proofs.internal.sheet.refused.Goals as goal

pub returns-clause-line : goal.returns-clause-line
unfolding refusal bytes
returns-clause-line c =
    let n : c.put_number.new.sheet.items ≡ c.put.new.sheet.items ++ natural c.number.result = c.put_number.ensures.text ∙ ap (λ t. c.put.new.sheet.items ++ t) (spelled _ c.number.type_inv) in
    let p : c.put_number-2.new.sheet.items ≡ c.push.new.self.items ++ natural c.place.result = c.put_number-2.ensures.text ∙ ap (λ t. c.push.new.self.items ++ t) (spelled _ c.place.type_inv) in
    rw (c.push-2.ensures.items, p, c.push.ensures.items, n, c.put.ensures, c.new-sheet.ensures, ← c.number.ensures, ← c.place.ensures) (simp append_assoc)
