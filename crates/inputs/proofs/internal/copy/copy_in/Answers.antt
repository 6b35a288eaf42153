use Rattle.inputs.proofs.Copy.{pasted_both}
use Rattle.inputs.proofs.internal.copy.copy_in.Goals as goal

pub returns : goal.returns
returns c =
    let a = c.args in
    pasted_both a.t.now a.matrix.now a.right.now _ _ c.fill.ensures c.fill-2.ensures
