use Rattle.forward.proofs.Formed.{entry_fits, entry_ready, entry_placed}
use Rattle.forward.proofs.internal.formed.formed_entry.Goals as goal

pub difference-v-requires : goal.difference-v-requires
difference-v-requires c = entry_fits c.requires c.identity.ensures c.read-b.ensures

pub place-requires : goal.place-requires
place-requires c =
    entry_ready c.requires c.identity.ensures c.read-b.ensures c.difference-v.ensures

pub returns : goal.returns
returns c =
    entry_placed c.requires c.identity.ensures c.read-b.ensures c.difference-v.ensures c.place.ensures
