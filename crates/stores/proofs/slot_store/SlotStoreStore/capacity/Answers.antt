use Rattle.stores.proofs.Whole.{same_store}
use Rattle.stores.proofs.slot_store.SlotStoreStore.capacity.Goals as goal

pub returns-clause-same : goal.returns-clause-same
returns-clause-same g c = same_store _ _ c.room.ensures.same
