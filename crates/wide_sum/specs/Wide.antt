-- What a number beyond 64 bits, and an interval of such numbers, hold.
use Rattle.std.specs.Prelude.{◌^◌, ℤ, pos, ◌+ℤ◌, ◌*ℤ◌}
use Rattle.interval.specs.declared.Interval.{Interval}
use Rattle.wide_sum.specs.declared.Wide.{Wide}
use Rattle.wide_sum.specs.declared.WideInterval.{WideInterval}

unfoldable pub held : Wide → ℤ
held w = w.high *ℤ pos (2 ^ 64) +ℤ pos w.low

unfoldable pub held_both : WideInterval → Interval
held_both v = record { lo = held v.lo; hi = held v.hi }
