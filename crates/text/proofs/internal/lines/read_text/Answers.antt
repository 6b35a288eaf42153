use mathlib.Core.Path.{ap, ◌∙◌}
use Rattle.outcome.proofs.Run.{carried}
use Rattle.text.specs.Code.{reading_is}
use Rattle.text.proofs.Head.{text_head, text_faulty, text_balance}
use Rattle.text.proofs.internal.lines.read_text.Goals as goal

pub returns-in_err-h-clause-t_after : goal.returns-in_err-h-clause-t_after
returns-in_err-h-clause-t_after c =
    ap (λ r. reading_is c.args.text.now r c.args.t.now) (carried _ _ c.from_residual.ensures.1) ∙ text_head _ c.in_err-h.ensures

pub returns-in_err-read_rows-clause-t_after : goal.returns-in_err-read_rows-clause-t_after
returns-in_err-read_rows-clause-t_after c =
    ap (λ r. reading_is c.args.text.now r c.read_rows.new.t) (carried _ _ c.from_residual-in_err-read_rows.ensures.1)
    ∙ text_faulty c.in_ok-h.ensures _ c.in_err-read_rows.was c.read_rows.ensures.t_after

pub returns-clause-t_after : goal.returns-clause-t_after
returns-clause-t_after c =
    text_balance c.in_ok-h.ensures _ c.read_rows.ensures.length c.in_ok-read_rows.was c.read_rows.ensures.t_after
