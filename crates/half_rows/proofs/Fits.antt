-- A component's sum fits 64 bits.
use mathlib.Core.Path.{◌≡◌}
use mathlib.Core.Bool.{true}
use native.Mathlib.Omega.{arith}
use lib.IntN.{ℤ, pos, neg_ℤ, ◌+ℤ◌}
use lib.Signed.{◌≤ℤ◌}
use mir.Syntax.{w64}
use mir.Val.{SFits}
use Rattle.integer.proofs.Linear.{linear, over}
use Rattle.integer.proofs.Order.{trans}
use Rattle.integer.proofs.Machine.{fits64}
use Rattle.interval.specs.declared.Interval.{Interval}
use Rattle.interval.specs.Interval.{acceptable, exact_sum}
use Rattle.interval.specs.Code.{Representable}
use Rattle.wide_sum.specs.Code.{Handy}
use Rattle.rows.proofs.Size.{acceptable_small}

pub component_fits : {a b t : Interval} → b ≡ a → acceptable a ≡ true → Handy t.lo → Handy t.hi → Representable (exact_sum b t)
unfolding exact_sum
component_fits {a} e h l u =
    let s = acceptable_small a h in
    rw e
    (record {
      lo_fits = fit _ _ s.low (trans s.order s.high) l.low l.high;
      hi_fits = fit _ _ (trans s.low s.order) s.high u.low u.high;
    })
  where
    fit : (b f : ℤ) → neg_ℤ (pos 2000000000) ≤ℤ b → b ≤ℤ pos 2000000000 → neg_ℤ (pos 30000000000000000) ≤ℤ f → f ≤ℤ pos 30000000000000000 → SFits w64 (b +ℤ f)
    fit = over 2 _ (λ ρ. simp (fits64, linear, ρ) (omega arith))
