use mathlib.Core.Path.{◌∙◌}
use Rattle.inputs.specs.System.{system}
use Rattle.report.proofs.Call.{calculation_swept, calculation_refused}
use Rattle.report.proofs.internal.calculation.calculate.Goals as goal

pub returns-in-Ok : goal.returns-in-Ok
returns-in-Ok c =
    let a = c.args in
    c.sweep.ensures ∙ calculation_swept (system a.n a.matrix.now a.right.now) a.bounds.now _ _ c.eliminate_balance.ensures c.in-Ok.is

pub returns-in-Err : goal.returns-in-Err
returns-in-Err c =
    let a = c.args in
    calculation_refused (system a.n a.matrix.now a.right.now) a.bounds.now _ _ c.eliminate_balance.ensures c.in-Err.is
