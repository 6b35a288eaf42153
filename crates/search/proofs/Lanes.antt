-- Bits of a word, byte by byte ('lane' by lane): what the marks are.
use mathlib.Core.Path.{◌≡◌, refl, ap, ap₂, ◌∙◌}
use mathlib.Core.Logic.{◌≢◌}
use mathlib.Core.Bool.{cond}
use mathlib.Core.List.{List}
use Prim.Native.Nat.{ℕ, zero, suc, ◌+◌, ◌*◌, ◌/◌, ◌%◌, ◌^◌, ◌≤◌, ◌<◌}
use native.Mathlib.Omega.{arith}
use native.Mathlib.Decide.{ℕ_discrete}
use borrow.Author.Tests.{eq-eqb, ne_eqb}
use lib.Dec.{eqb}
use lib.ListN.{get_or}
use lib.Bits.{bit_and, bit_or, bit_xor, and_block, or_block, xor_block, and_mask, and_zero_r, or_lt, xor_self, xor_add_and, and_le_l, and_le_r, and_lt, xor_lt}
use Rattle.search.specs.Word.{word_at, marks_at}
use Rattle.search.proofs.Words.{word_none, word_more}

-- c in each of n lanes
unfoldable pub all : ℕ → ℕ → ℕ
all zero c = 0
all (suc n) c = all n c * 256 + c

-- a digit that is set in either
either : (a b : ℕ) → a < 2 → b < 2 → bit_and (bit_or a b) 1 ≡ cond (eqb (a + b) 0) 0 1
either zero zero h k = refl
either zero (suc zero) h k = refl
either zero (suc (suc b)) h k = absurd (omega arith)
either (suc zero) zero h k = refl
either (suc zero) (suc zero) h k = refl
either (suc zero) (suc (suc b)) h k = absurd (omega arith)
either (suc (suc a)) b h k = absurd (omega arith)

-- the top bit of either of two bytes
top_or : (x y : ℕ) → x < 256 → y < 256 → bit_and (bit_or x y) 128 ≡ cond (eqb (x / 128 + y / 128) 0) 0 1 * 128
top_or x y h k =
    let e : x ≡ x / 128 * 2 ^ 7 + x % 128 = omega arith in
    let f : y ≡ y / 128 * 2 ^ 7 + y % 128 = omega arith in
    let a = bit_or (x / 128) (y / 128) in
    let r = bit_or (x % 128) (y % 128) in
    let z : bit_and a 1 * 2 ^ 7 + bit_and r 0 ≡ bit_and a 1 * 128 = rw (and_zero_r r) (omega arith) in
    ap₂ (λ u v. bit_and (bit_or u v) (1 * 2 ^ 7 + 0)) e f ∙
    ap (λ t. bit_and t (1 * 2 ^ 7 + 0)) (or_block 7 (x / 128) (y / 128) (x % 128) (y % 128) (omega arith) (omega arith)) ∙
    and_block 7 a 1 r 0 (or_lt 7 (x % 128) (y % 128) (omega arith) (omega arith)) (omega arith) ∙
    z ∙ ap (λ t. t * 128) (either (x / 128) (y / 128) (omega arith) (omega arith))

-- one lane: its top bit is set unless it is 0
unfoldable pub lane : ℕ → ℕ
lane x = bit_xor (bit_and (bit_or (bit_and x 127 + 127) x) 128) 128

low_bits : (x : ℕ) → bit_and x 127 ≡ x % 128
low_bits x = and_mask x 7

pub lane_is : (x : ℕ) → x < 256 → lane x ≡ cond (eqb x 0) 128 0
unfolding lane
lane_is x h = rw (low_bits x, top_or (x % 128 + 127) x (omega arith) h) (go (ℕ_discrete x 0))
  where
    go : Dec (x ≡ 0) → bit_xor (cond (eqb ((x % 128 + 127) / 128 + x / 128) 0) 0 1 * 128) 128 ≡ cond (eqb x 0) 128 0
    go (yes e) = rw e
    go (no e) =
        let f : (x % 128 + 127) / 128 + x / 128 ≢ 0 = omega (arith, e) in
        rw (ne_eqb _ _ f, ne_eqb x 0 e) (xor_self 128)

-- two bytes are the same if no bit differs
differ_not : (a b : ℕ) → bit_xor a b ≡ 0 → a ≡ b
differ_not a b e = omega (arith, xor_add_and a b, and_le_l a b, and_le_r a b, e)

lane_of : (x b : ℕ) → x < 256 → b < 256 → lane (bit_xor x b) ≡ cond (eqb x b) 128 0
lane_of x b h k = lane_is (bit_xor x b) (xor_lt 8 x b h k) ∙ go (ℕ_discrete x b)
  where
    go : Dec (x ≡ b) → ◌≡◌ {A = ℕ} (cond (eqb (bit_xor x b) 0) 128 0) (cond (eqb x b) 128 0)
    go (yes e) = rw (e, eq-eqb b b refl, xor_self b)
    go (no e) = rw (ne_eqb x b e, ne_eqb (bit_xor x b) 0 (λ z. e (differ_not x b z)))

-- what the search does with n lanes at once
unfoldable pub lanes : ℕ → ℕ → ℕ
lanes n x = bit_xor (bit_and (bit_or (bit_and x (all n 127) + all n 127) x) (all n 128)) (all n 128)

-- the lowest lane apart
lanes_split : (n x r : ℕ) → r < 256 → lanes (suc n) (x * 256 + r) ≡ lanes n x * 256 + lane r
unfolding lanes lane all
lanes_split n x r h =
    let m = all n 127 in
    let t = all n 128 in
    let u = bit_and x m in
    let v : ℕ = bit_and r 127 in
    let w : v ≤ 127 = and_le_r r 127 in
    let e : u * 2 ^ 8 + v + (m * 256 + 127) ≡ (u + m) * 2 ^ 8 + (v + 127) = omega arith in
    let l : v + 127 < 2 ^ 8 = omega (arith, w) in
    let c = bit_or (u + m) x in
    let d : ℕ = bit_or (v + 127) r in
    let d_low : d < 2 ^ 8 = or_lt 8 (v + 127) r l h in
    ap (λ z. bit_xor (bit_and (bit_or (z + (m * 256 + 127)) (x * 256 + r)) (t * 256 + 128)) (t * 256 + 128)) (and_block 8 x m r 127 h (omega arith)) ∙
    ap (λ z. bit_xor (bit_and (bit_or z (x * 256 + r)) (t * 256 + 128)) (t * 256 + 128)) e ∙
    ap (λ z. bit_xor (bit_and z (t * 256 + 128)) (t * 256 + 128)) (or_block 8 (u + m) x (v + 127) r l h) ∙
    ap (λ z. bit_xor z (t * 256 + 128)) (and_block 8 c t d 128 d_low (omega arith)) ∙
    xor_block 8 (bit_and c t) t (bit_and d 128) 128 (and_lt 8 d 128 d_low (omega arith)) (omega arith)

lanes_none : lanes 0 (bit_xor 0 0) ≡ 0
unfolding lanes all
lanes_none = refl

-- the marks of d bytes: the top bit of each that is b
pub marks_are : (s : List ℕ) → ((j : ℕ) → get_or s j 0 < 256) → (b : ℕ) → b < 256 → (i d : ℕ) → lanes d (bit_xor (word_at s i d) (all d b)) ≡ marks_at s i b d
unfolding marks_at all
marks_are s h b k i zero = ap (λ w. lanes 0 (bit_xor w 0)) (word_none s i) ∙ lanes_none
marks_are s h b k i (suc d) =
    ap (λ w. lanes (suc d) (bit_xor w (all d b * 256 + b))) (word_more s i d) ∙
    ap (lanes (suc d)) (xor_block 8 (word_at s (i + 1) d) (all d b) (get_or s i 0) b (h i) k) ∙
    lanes_split d _ (bit_xor (get_or s i 0) b) (xor_lt 8 (get_or s i 0) b (h i) k) ∙
    ap₂ (λ y z. y * 256 + z) (marks_are s h b k (i + 1) d) (lane_of (get_or s i 0) b (h i) k)

-- ---- eight lanes, as the search writes them
pub eight_sought : (b : ℕ) → b * 72340172838076673 ≡ all 8 b
unfolding all
eight_sought b = omega arith

pub eight_lanes : (x : ℕ) → bit_xor (bit_and (bit_or (bit_and x 9187201950435737471 + 9187201950435737471) x) 9259542123273814144) 9259542123273814144 ≡ lanes 8 x
unfolding lanes all
eight_lanes x = refl
