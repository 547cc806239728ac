use Rattle.stores.proofs.Slots.{first_slots}
use Rattle.stores.proofs.slot_store.SlotStore+Ordered+Record.new.Goals as goal

pub returns-clause-kept : goal.returns-clause-kept
returns-clause-kept c = first_slots c.args.slots.now _ _ c.new.ensures.lent.kept c.min-most.ensures
