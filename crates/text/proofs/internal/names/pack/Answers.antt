use mathlib.Core.Path.{◌≡◌, ap, ◌∙◌}
use mathlib.Core.List.{◌++◌}
use Prim.Native.Nat.{ℕ}
use lib.ListN.{length, drop, replicate}
use Rattle.std.specs.Int.{from_le_bytes, w128}
use Rattle.text.proofs.Packed.{packed_in}
use Rattle.text.proofs.internal.names.pack.Goals as goal

pub returns : goal.returns
returns c =
    let e : c.from_le_bytes.result ≡ from_le_bytes w128 (c.copy_from_slice.new.self ++ drop (length c.args.s.now) (replicate {A = ℕ} 16 0)) = c.from_le_bytes.ensures in
    e ∙ ap (λ t. from_le_bytes w128 (t ++ drop (length c.args.s.now) (replicate {A = ℕ} 16 0))) c.copy_from_slice.ensures.after ∙ packed_in c.args.s.now c.requires
