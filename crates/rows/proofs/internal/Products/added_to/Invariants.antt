use mathlib.Core.Path.{◌≡◌}
use Prim.Native.Nat.{ℕ, ◌+◌, ◌-◌, ◌*◌, ◌≤◌}
use Rattle.wide_sum.specs.Wide.{held_both}
use Rattle.wide_sum.specs.Code.{NearBoth}
use Rattle.rows.specs.Sum.{exactly}
use Rattle.rows.proofs.internal.Products.added_to.Given as goal

-- j pairs are added
abbrev pub invariant-loop-j : goal.invariant-loop-j
invariant-loop-j v =
    (v.j ≤ v.k) × ((l : ℕ) → NearBoth l v.initial.sum → NearBoth (l + 2 * v.j) v.sum) × (exactly v.self.m.now v.self.p v.self.x.now v.self.q v.self.d 0 (held_both v.initial.sum) ≡ exactly v.self.m.now v.self.p v.self.x.now v.self.q (v.self.d - 2 * v.j) (2 * v.j) (held_both v.sum))
