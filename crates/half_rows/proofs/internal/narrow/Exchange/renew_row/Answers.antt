use mathlib.Core.Path.{sym, ◌∙◌}
use Rattle.half_rows.proofs.Renewed.{row_ill, row_unready, row_done, sum_exchanged}
use Rattle.half_rows.proofs.internal.narrow.Exchange.renew_row.Goals as goal
use Rattle.half_rows.proofs.internal.narrow.Exchange.renew_row.Goals.{then-not-is_acceptable-via-then-not-is_acceptable, then-not-is_acceptable-via-else-not-is_acceptable+then-not-sum_ready}

pub returns-then-not-is_acceptable : goal.returns-then-not-is_acceptable
returns-then-not-is_acceptable c =
    λ r. elim c.then-not-is_acceptable.branch [
      | then-not-is_acceptable-via-then-not-is_acceptable w ↦ row_ill _ _ _ _ _ _ c.read-a.ensures (sym c.is_acceptable.ensures ∙ w.if-not-is_acceptable.true)
      | then-not-is_acceptable-via-else-not-is_acceptable+then-not-sum_ready w ↦ row_unready _ _ _ _ _ _ c.read-a.ensures (sym c.is_acceptable.ensures ∙ w.if-not-is_acceptable.false) (sym w.sum_ready.ensures ∙ w.if-not-sum_ready.true)
    ]

pub returns : goal.returns
returns c =
    λ r. row_done _ _ _ _ _ _ c.read-a.ensures (sym c.is_acceptable.ensures ∙ c.if-not-is_acceptable.false) (sym c.sum_ready.ensures ∙ c.if-not-sum_ready.false)
    (sum_exchanged _ _ _ _ c.read-a.ensures c.read_sum-k.ensures.0 c.change-c.ensures c.added.ensures c.write_sum.ensures)
