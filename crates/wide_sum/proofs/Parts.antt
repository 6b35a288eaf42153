-- A wide number in whole scales and a part, and its floor and ceiling from them.
use Rattle.std.proofs.Common.{◌≡◌, ℕ, ◌+◌, ◌*◌, ◌/◌, ◌%◌, ◌^◌, ◌<◌, ◌≤◌, ℤ, pos, ◌+ℤ◌, ◌-ℤ◌, ◌*ℤ◌, neg_ℤ, ◌≤ℤ◌, ◌<ℤ◌, sym, ap, ◌∙◌, ap₂, arith, le→leb, w64, SFits, to_z, of_z}
use mir.ValLaws.{to_z-of_z, to_z_pos}
use Rattle.integer.specs.Rounding.{floor_div, ceil_div}
use Rattle.integer.proofs.Linear.{reading, read_pos, linear, ring, over}
use Rattle.integer.proofs.Order.{also, prod}
use Rattle.integer.proofs.Machine.{fits64}
use Rattle.integer.proofs.Rounding.{floor_low, floor_high, floor_unique, ceil_low, ceil_high, ceil_unique}
use Rattle.interval.specs.Interval.{scale}
use Rattle.interval.proofs.Range.{scale_above}
use Rattle.wide_sum.specs.declared.Wide.{Wide}
use Rattle.wide_sum.specs.declared.internal.rounding.Parts.{Parts}
use Rattle.wide_sum.specs.Wide.{held}
use Rattle.wide_sum.specs.Code.{Near, Parted, Handy}
use Rattle.wide_sum.proofs.Carry.{high_fits}

pub natural_bound : {k b : ℕ} → k ≤ b → (pos 0 ≤ℤ pos k) × (pos k ≤ℤ pos b)
natural_bound {k} {b} h = (record { le = le→leb 0 k (omega arith) }, record { le = le→leb k b h })

-- a high word times k, and m, as the code has them
module _ {w : Wide} (n : Near 1000 w) {k m b : ℕ} (kb : k ≤ b) (mb : m ≤ b) (few : b ≤ 20000000000000) where
  pub scaled_bounded : (neg_ℤ (pos (1001 * b)) ≤ℤ (w.high *ℤ pos k +ℤ pos m)) × ((w.high *ℤ pos k +ℤ pos m) ≤ℤ pos (1001 * b))
  scaled_bounded =
      let x = natural_bound kb in
      let y = natural_bound mb in
      go w.high (pos k) (pos m) (pos b) n.low n.high x.0 x.1 y.0 y.1
    where
      go : (h k m b : ℤ) → neg_ℤ (pos 1000) ≤ℤ h → h ≤ℤ pos 1000 → pos 0 ≤ℤ k → k ≤ℤ b → pos 0 ≤ℤ m → m ≤ℤ b →
          (neg_ℤ (pos 1001 *ℤ b) ≤ℤ (h *ℤ k +ℤ m)) × ((h *ℤ k +ℤ m) ≤ℤ (pos 1001 *ℤ b))
      go = over 4 _ (λ ρ l u k₀ k₁ m₀ m₁. also (prod l k₀) (also (prod u k₀) (also k₀ (also k₁ (also m₀ (also m₁ (simp (linear, ρ) (omega arith))))))))

  product_fits : SFits w64 (w.high *ℤ pos k)
  product_fits = let x = natural_bound kb in let y = natural_bound few in go w.high (pos k) (pos b) n.low n.high x.0 x.1 y.1
    where
      go : (h k b : ℤ) → neg_ℤ (pos 1000) ≤ℤ h → h ≤ℤ pos 1000 → pos 0 ≤ℤ k → k ≤ℤ b → b ≤ℤ pos 20000000000000 → SFits w64 (h *ℤ k)
      go = over 3 _ (λ ρ l u k₀ k₁ b₁. also (prod l k₀) (also (prod u k₀) (also k₀ (also k₁ (also b₁ (simp (fits64, linear, ρ) (omega arith)))))))

  sum_fits : SFits w64 (w.high *ℤ pos k +ℤ pos m)
  sum_fits = let y = natural_bound few in go _ (pos b) scaled_bounded.0 scaled_bounded.1 y.1
    where
      go : (z b : ℤ) → neg_ℤ (pos 1001 *ℤ b) ≤ℤ z → z ≤ℤ (pos 1001 *ℤ b) → b ≤ℤ pos 20000000000000 → SFits w64 z
      go = over 2 _ (λ ρ. simp (fits64, linear, ρ) (omega arith))

  pub with_rest_read : to_z w64 (of_z w64 (to_z w64 (of_z w64 (to_z w64 (of_z w64 w.high) *ℤ pos k)) +ℤ to_z w64 m)) ≡ w.high *ℤ pos k +ℤ pos m
  with_rest_read =
      rw (to_z-of_z w64 w.high (high_fits n), to_z-of_z w64 (w.high *ℤ pos k) product_fits, to_z_pos w64 m (omega arith)) (to_z-of_z w64 (w.high *ℤ pos k +ℤ pos m) sum_fits)

-- 2^64 is k scales and l
pub parted_is : {w : Wide} → Near 1000 w → w.low < 2 ^ 64 → (k l : ℕ) {r : Parts} → r.whole ≡ w.high *ℤ pos k +ℤ pos (w.low / 1000000) →
    r.part ≡ w.high *ℤ pos l +ℤ pos (w.low % 1000000) → k * 1000000 + l ≡ 2 ^ 64 → l ≤ 2000000 → Parted w r
unfolding held scale
parted_is {w} n b k l {r} e f two few =
    rw (e, f)
    (record {
      is = split w.high (pos k) (pos l) (pos (w.low / 1000000)) (pos (w.low % 1000000)) ∙ ap₂ (λ (y z : ℕ). w.high *ℤ pos y +ℤ pos z) two (sym whole);
      whole_small = scaled_bounded n {b = 20000000000000} (omega (arith, two)) (omega (arith, b)) (omega arith);
      part_small = scaled_bounded n {b = 2000000} few (omega arith) (omega arith);
    })
  where
    whole : w.low ≡ w.low / 1000000 * 1000000 + w.low % 1000000
    whole = omega arith

    split : (h k l q r : ℤ) → ((h *ℤ k +ℤ q) *ℤ pos 1000000 +ℤ (h *ℤ l +ℤ r)) ≡ (h *ℤ (k *ℤ pos 1000000 +ℤ l) +ℤ (q *ℤ pos 1000000 +ℤ r))
    split = over 5 _ (λ ρ. simp (reading, read_pos, ρ) (ring _ _ _ tt))

-- ---- floor and ceiling
module _ (a b s : ℤ) (h : pos 0 <ℤ s) where
  pub floor_whole : (a +ℤ floor_div b s) ≡ floor_div (a *ℤ s +ℤ b) s
  floor_whole = floor_unique (a *ℤ s +ℤ b) s (a +ℤ floor_div b s) h (low a (floor_div b s) b s (floor_low b s h)) (high a (floor_div b s) b s (floor_high b s h))
    where
      low : (a f b s : ℤ) → (f *ℤ s) ≤ℤ b → ((a +ℤ f) *ℤ s) ≤ℤ (a *ℤ s +ℤ b)
      low = over 4 _ (λ ρ. simp linear (omega arith))

      high : (a f b s : ℤ) → b <ℤ (f *ℤ s +ℤ s) → (a *ℤ s +ℤ b) <ℤ ((a +ℤ f) *ℤ s +ℤ s)
      high = over 4 _ (λ ρ. simp linear (omega arith))

  pub ceil_whole : (a +ℤ ceil_div b s) ≡ ceil_div (a *ℤ s +ℤ b) s
  ceil_whole = ceil_unique (a *ℤ s +ℤ b) s (a +ℤ ceil_div b s) h (high a (ceil_div b s) b s (ceil_high b s h)) (low a (ceil_div b s) b s (ceil_low b s h))
    where
      high : (a c b s : ℤ) → b ≤ℤ (c *ℤ s) → (a *ℤ s +ℤ b) ≤ℤ ((a +ℤ c) *ℤ s)
      high = over 4 _ (λ ρ. simp linear (omega arith))

      low : (a c b s : ℤ) → (c *ℤ s -ℤ s) <ℤ b → ((a +ℤ c) *ℤ s -ℤ s) <ℤ (a *ℤ s +ℤ b)
      low = over 4 _ (λ ρ. simp linear (omega arith))

-- what the parts come to is far from the ends of 64 bits
rounded_handy : {w : Wide} {r : Parts} → Parted w r → (f : ℤ) → (f *ℤ pos 1000000 -ℤ pos 1000000) <ℤ r.part → r.part <ℤ (f *ℤ pos 1000000 +ℤ pos 1000000) → Handy (r.whole +ℤ f)
rounded_handy {w} {r} p f l u = let b = go r.whole r.part f p.whole_small.0 p.whole_small.1 p.part_small.0 p.part_small.1 l u in record { low = b.0; high = b.1 }
  where
    go : (a b f : ℤ) → neg_ℤ (pos 20020000000000000) ≤ℤ a → a ≤ℤ pos 20020000000000000 → neg_ℤ (pos 2002000000) ≤ℤ b → b ≤ℤ pos 2002000000 →
        (f *ℤ pos 1000000 -ℤ pos 1000000) <ℤ b → b <ℤ (f *ℤ pos 1000000 +ℤ pos 1000000)
        → (neg_ℤ (pos 30000000000000000) ≤ℤ (a +ℤ f)) × ((a +ℤ f) ≤ℤ pos 30000000000000000)
    go = over 3 _ (λ ρ. simp (linear, ρ) (omega arith))

handy_fits : {z : ℤ} → Handy z → SFits w64 z
handy_fits {z} h = go z h.low h.high
  where
    go : (z : ℤ) → neg_ℤ (pos 30000000000000000) ≤ℤ z → z ≤ℤ pos 30000000000000000 → SFits w64 z
    go = over 1 _ (λ ρ. simp (fits64, linear, ρ) (omega arith))

module _ {w : Wide} {r : Parts} (p : Parted w r) where
  whole_plain : to_z w64 (of_z w64 r.whole) ≡ r.whole
  whole_plain = to_z-of_z w64 _ (go r.whole p.whole_small.0 p.whole_small.1)
    where
      go : (a : ℤ) → neg_ℤ (pos 20020000000000000) ≤ℤ a → a ≤ℤ pos 20020000000000000 → SFits w64 a
      go = over 1 _ (λ ρ. simp (fits64, linear, ρ) (omega arith))

  part_plain : to_z w64 (of_z w64 r.part) ≡ r.part
  part_plain = to_z-of_z w64 _ (go r.part p.part_small.0 p.part_small.1)
    where
      go : (a : ℤ) → neg_ℤ (pos 2002000000) ≤ℤ a → a ≤ℤ pos 2002000000 → SFits w64 a
      go = over 1 _ (λ ρ. simp (fits64, linear, ρ) (omega arith))

  floor_handy : Handy (r.whole +ℤ floor_div r.part scale)
  unfolding scale
  floor_handy = rounded_handy p (floor_div r.part (pos 1000000)) (less (floor_div r.part (pos 1000000)) r.part (floor_low r.part (pos 1000000) scale_above)) (floor_high r.part (pos 1000000) scale_above)
    where
      less : (f b : ℤ) → (f *ℤ pos 1000000) ≤ℤ b → (f *ℤ pos 1000000 -ℤ pos 1000000) <ℤ b
      less = over 2 _ (λ ρ. simp (linear, ρ) (omega arith))

  ceil_handy : Handy (r.whole +ℤ ceil_div r.part scale)
  unfolding scale
  ceil_handy = rounded_handy p (ceil_div r.part (pos 1000000)) (ceil_low r.part (pos 1000000) scale_above) (more (ceil_div r.part (pos 1000000)) r.part (ceil_high r.part (pos 1000000) scale_above))
    where
      more : (c b : ℤ) → b ≤ℤ (c *ℤ pos 1000000) → b <ℤ (c *ℤ pos 1000000 +ℤ pos 1000000)
      more = over 2 _ (λ ρ. simp (linear, ρ) (omega arith))

  -- as the code has them, with what the division answered
  module _ {f : ℤ} (e : to_z w64 (of_z w64 f) ≡ f) where
    pub floor_safe : f ≡ floor_div (to_z w64 (of_z w64 r.part)) scale → SFits w64 (to_z w64 (of_z w64 r.whole) +ℤ to_z w64 (of_z w64 f))
    floor_safe g = rw (whole_plain, e, g, part_plain) (handy_fits floor_handy)

    floor_is : f ≡ floor_div (to_z w64 (of_z w64 r.part)) scale → to_z w64 (of_z w64 (to_z w64 (of_z w64 r.whole) +ℤ to_z w64 (of_z w64 f))) ≡ floor_div (held w) scale
    floor_is g = to_z-of_z w64 _ (floor_safe g) ∙ rw (whole_plain, e, g, part_plain) (floor_whole r.whole r.part scale scale_above ∙ ap (λ z. floor_div z scale) p.is)

    pub floor_read : f ≡ floor_div (to_z w64 (of_z w64 r.part)) scale → (to_z w64 (of_z w64 (to_z w64 (of_z w64 r.whole) +ℤ to_z w64 (of_z w64 f))) ≡ floor_div (held w) scale) × Handy (to_z w64 (of_z w64 (to_z w64 (of_z w64 r.whole) +ℤ to_z w64 (of_z w64 f))))
    floor_read g = (floor_is g, rw (to_z-of_z w64 _ (floor_safe g), whole_plain, e, g, part_plain) floor_handy)

    pub ceil_safe : f ≡ ceil_div (to_z w64 (of_z w64 r.part)) scale → SFits w64 (to_z w64 (of_z w64 r.whole) +ℤ to_z w64 (of_z w64 f))
    ceil_safe g = rw (whole_plain, e, g, part_plain) (handy_fits ceil_handy)

    ceil_is : f ≡ ceil_div (to_z w64 (of_z w64 r.part)) scale → to_z w64 (of_z w64 (to_z w64 (of_z w64 r.whole) +ℤ to_z w64 (of_z w64 f))) ≡ ceil_div (held w) scale
    ceil_is g = to_z-of_z w64 _ (ceil_safe g) ∙ rw (whole_plain, e, g, part_plain) (ceil_whole r.whole r.part scale scale_above ∙ ap (λ z. ceil_div z scale) p.is)

    pub ceil_read : f ≡ ceil_div (to_z w64 (of_z w64 r.part)) scale → (to_z w64 (of_z w64 (to_z w64 (of_z w64 r.whole) +ℤ to_z w64 (of_z w64 f))) ≡ ceil_div (held w) scale) × Handy (to_z w64 (of_z w64 (to_z w64 (of_z w64 r.whole) +ℤ to_z w64 (of_z w64 f))))
    ceil_read g = (ceil_is g, rw (to_z-of_z w64 _ (ceil_safe g), whole_plain, e, g, part_plain) ceil_handy)
