use Rattle.forward.proofs.Value.{reduced_fits, reduced_order}
use Rattle.forward.proofs.internal.step.reduce.Goals as goal

pub difference-v-requires : goal.difference-v-requires
difference-v-requires c =
    rw (c.read-a.ensures, c.product.ensures, c.read-b.ensures) (reduced_fits _ _ _ (c.requires.sound.0.each _) c.requires.sound.1 (c.requires.sound.0.each _))

pub place-requires : goal.place-requires
place-requires c =
    (c.requires.sound.0, c.requires.p_in_bounds.0, rw (c.difference-v.ensures, c.read-a.ensures, c.product.ensures, c.read-b.ensures) (reduced_order _ _ _ (c.requires.sound.0.each _) c.requires.sound.1 (c.requires.sound.0.each _)))
