use Rattle.stores.proofs.Whole.{same_store}
use Rattle.stores.proofs.slot_store.SlotStoreTimetable.not_before.Goals as goal

pub returns-clause-same : goal.returns-clause-same
returns-clause-same g c = same_store _ _ c.not_before.ensures.same
