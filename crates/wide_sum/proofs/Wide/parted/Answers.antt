use Rattle.std.proofs.Common.{◌^◌, ◌<◌, arith}
use Rattle.wide_sum.proofs.Parts.{with_rest_read, parted_is}
use Rattle.wide_sum.proofs.Wide.parted.Goals as goal

pub returns : goal.returns
returns c =
    let small : c.args.self.low < 2 ^ 64 = omega arith in
    parted_is c.requires small _ _
    (with_rest_read c.requires {b = 20000000000000} (omega arith) (omega arith) (omega arith))
    (with_rest_read c.requires {b = 2000000} (omega arith) (omega arith) (omega arith))
    (omega arith) (omega arith)
