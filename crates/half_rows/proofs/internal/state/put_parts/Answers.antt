use native.Mathlib.Omega.{arith}
use Rattle.half_rows.proofs.State.{sums_end}
use Rattle.half_rows.proofs.internal.state.put_parts.Goals as goal

pub fill-requires-2 : goal.fill-requires-2
fill-requires-2 c = omega (arith, sums_end)
