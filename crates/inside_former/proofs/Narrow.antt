-- Differences and quotients of narrower intervals are narrower, and what is in the range stays in it.
use mathlib.Core.Path.{◌≡◌}
use mathlib.Core.Bool.{true, false}
use native.Mathlib.Omega.{arith}
use lib.IntN.{ℤ, ◌-ℤ◌}
use lib.Signed.{◌≤ℤ◌, le_z}
use Rattle.integer.proofs.Order.{trans, mono, lt_le}
use Rattle.integer.proofs.Linear.{linear, over}
use Rattle.interval.specs.declared.Interval.{Interval}
use Rattle.interval.specs.Interval.{in_range, acceptable, contains_zero, exact_difference, quotient}
use Rattle.interval.proofs.Range.{and_both, is_within, sound_accepted}
use Rattle.fraction.specs.Fraction.{Fraction, Inside, millionths}
use Rattle.fraction.specs.Meaning.{Contains}
use Rattle.fraction.proofs.Quotient.{quotient_hull}
use Rattle.fraction.proofs.Hull.{result, hull_order}
use Rattle.rows.proofs.Once.{Narrow}

-- what contains an interval with its ends in sequence has its own in sequence
pub wide_order : {v w : Interval} → Narrow v w → v.lo ≤ℤ v.hi
wide_order h = trans h.inside.low (trans h.order h.inside.high)

pub difference_narrow : {v w : Interval} (u : Interval) → u.lo ≤ℤ u.hi → Contains v w → w.lo ≤ℤ w.hi → Narrow (exact_difference u v) (exact_difference u w)
unfolding exact_difference
difference_narrow {v} {w} u o h k =
    record {
      inside = record { low = away u.lo w.hi v.hi h.high; high = away u.hi v.lo w.lo h.low };
      order = sequence u.lo u.hi w.lo w.hi o k;
    }
  where
    away : (a b c : ℤ) → b ≤ℤ c → (a -ℤ c) ≤ℤ (a -ℤ b)
    away = over 3 _ (λ ρ. simp linear (omega arith))

    sequence : (a b c d : ℤ) → a ≤ℤ b → c ≤ℤ d → (a -ℤ d) ≤ℤ (b -ℤ c)
    sequence = over 4 _ (λ ρ. simp linear (omega arith))

wider : {x u : Interval} {a : Fraction} → Contains x u → Inside u a → Inside x a
wider {x} {u} {a} h k =
    record {
      low = trans (mono x.lo u.lo a.den (lt_le a.above) h.low) k.low;
      high = trans k.high (mono u.hi x.hi a.den (lt_le a.above) h.high);
    }

-- the wider quotient holds every result of the narrower one, which is the narrowest that does
pub quotient_narrow : {x u : Interval} (y : Interval) → Narrow x u → y.lo ≤ℤ y.hi → contains_zero y ≡ false → Narrow (quotient x y) (quotient u y)
quotient_narrow {x} {u} y h o z =
    let f = quotient_hull millionths u y z in
    record {
      inside = f.narrowest h.order o (quotient x y) (λ c r. (quotient_hull millionths x y z).holds c (result (wider h.inside r.left_in) r.right_in r.exact));
      order = hull_order f h.order o;
    }

pub range_narrow : {v w : Interval} → Narrow v w → in_range v ≡ true → in_range w ≡ true
unfolding in_range acceptable
range_narrow {v} {w} h e =
    let a = and_both _ _ e in
    let l = (is_within v.lo a.0).low in
    let u = (is_within v.hi a.1).high in
    let s = sound_accepted w (record {
      order = h.order;
      lo_in = record { low = trans l h.inside.low; high = trans h.order (trans h.inside.high u) };
      hi_in = record { low = trans l (trans h.inside.low h.order); high = trans h.inside.high u };
    }) in
    (and_both (le_z w.lo w.hi) (in_range w) s).1
