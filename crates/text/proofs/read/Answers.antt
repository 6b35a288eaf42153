use mathlib.Core.Path.{ap, ◌∙◌}
use Rattle.outcome.specs.Run.{counted}
use Rattle.outcome.proofs.Run.{carried}
use Rattle.text.specs.Call.{lent}
use Rattle.text.proofs.Handed.{read_handed, read_faulty}
use Rattle.text.proofs.read.Goals as goal

pub returns-in_err-h : goal.returns-in_err-h
returns-in_err-h c =
    let l = lent c.args.matrix.now c.args.right.now in
    ap (λ r. counted r l) (carried _ _ c.from_residual.ensures.1) ∙ read_faulty _ _ l c.read_text.ensures.t_after c.in_err-h.was

pub returns : goal.returns
returns c =
    read_handed _ _ (lent c.args.matrix.now c.args.right.now) c.read_text.ensures.t_after c.in_ok-h.was c.hand_out.ensures
