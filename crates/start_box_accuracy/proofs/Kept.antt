-- Every box that sweep calls make of a start box holds every solution: the accuracy rule, for a box that the caller lends.
use Rattle.accuracy.specs.Claim.{lent}
use Rattle.accuracy.proofs.Rule.{accuracy}
use Rattle.start_box_accuracy.specs.Claim.{StartBoxKept}
use Rattle.start_box_accuracy.proofs.Holds.{holds}

pub kept : StartBoxKept
kept s box X a calls =
    let rule = accuracy s X lent calls in
    record {
      bounded_at_start = λ x sol. rule.bounded_at_start x sol (holds s box X a x sol);
      bounded_after = λ x sol. rule.bounded_after x sol (holds s box X a x sol);
      empty_only = λ e x sol. rule.empty_only e x sol (holds s box X a x sol);
    }
